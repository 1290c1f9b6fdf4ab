-- Laws of the crate: the positions of a start record, and marks counted at once.
pub mod Positions
