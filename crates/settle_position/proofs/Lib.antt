-- Laws of the crate: counts that grow entry by entry, and what a reference list decides.
pub mod Counting
pub mod Reference
