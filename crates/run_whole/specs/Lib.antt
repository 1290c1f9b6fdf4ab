-- Buffers: what is lent. Whole: the promise of playing a whole file, with demand 3. Quiet: document 02, A11. Inner: of private functions.
pub mod Buffers
pub mod Whole
pub mod Quiet
pub mod Inner
