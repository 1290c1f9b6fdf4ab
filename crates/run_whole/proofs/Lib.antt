pub mod FirstKind
pub mod Rows
pub mod Telling
pub mod Counting
pub mod Quiet
pub mod Going
pub mod AsAsked
