pub mod Pieces
pub mod Finishing
pub mod Cutting
