-- What other crates may cite: laws of mark words, of two in one, of counting by a loop, and of set bits.
pub mod Marks
pub mod Counts
pub mod Words
pub mod Ones
