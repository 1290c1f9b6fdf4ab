-- Every run file: what holds of what is read, demand 3, the listing as it comes, and the records as they come.
pub mod Reached
pub mod Demand3
pub mod Streaming
pub mod Whole
pub mod Bytes
pub mod Ends
pub mod Example
pub mod FileNumbers
