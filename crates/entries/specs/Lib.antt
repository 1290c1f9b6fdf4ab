-- The entries of a list, as they travel and as the code holds them.
pub mod Entries
pub mod Tables
