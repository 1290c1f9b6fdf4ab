-- The head: its record, the seats that calls make, what each call makes of the record, and demand 2 for heads and frames. Document 01,
-- "Strikes", the two rounds, and the order of checks under "Stops".
pub mod Kept
pub mod Answers
pub mod Record
pub mod Seats
pub mod Calls
pub mod Batch
pub mod Proper
pub mod Demand2
pub mod Ranges
pub mod Offers
pub mod Since
