-- Laws: planted positions counted on both sides of those that all hear; what is kept then; what a receiver settles.
pub mod Counting
pub mod Kept
pub mod Settling
