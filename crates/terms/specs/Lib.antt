-- The terms of document 01 that all other definitions use: refusal numbers and their order, sizes of a ring, positions.
pub mod Entry
pub mod Refusals
pub mod Refused
pub mod Sizes
pub mod Positions
pub mod Counting
