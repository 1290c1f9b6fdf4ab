-- A head as C keeps it: the places of its numbers in a block, which record a block is, and what each call leaves in it.
pub mod Places
pub mod Blocks
pub mod Steps
pub mod Events
pub mod Made
pub mod Pages
