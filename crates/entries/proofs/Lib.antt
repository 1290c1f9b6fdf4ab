-- What other crates may cite: laws of entries.
pub mod Entries
pub mod Tables
pub mod TableAt
pub mod Chains
