-- Received: what the links gave. Cells: how the search for the trusted entries holds it. Voting: how it goes.
pub mod Received
pub mod Cells
pub mod Voting
