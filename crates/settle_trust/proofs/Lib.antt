-- Laws of the crate: tests, cells of entries, and what the links gave.
pub mod Tests
pub mod Cells
pub mod Received
pub mod Search
pub mod Voting
pub mod Trusted
