pub mod Whole
pub mod Machine
pub mod Booleans
pub mod Checks
pub mod Sizes
pub mod Refusals
pub mod Refused
pub mod Sums
