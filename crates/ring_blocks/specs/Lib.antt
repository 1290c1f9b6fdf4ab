-- Blocks: demand 3 of the blocks that C keeps. Cables: what it asks of a cable can be met. Recovery: what is left of a time with more than f marked.
pub mod Blocks
pub mod Cables
pub mod Recovery
