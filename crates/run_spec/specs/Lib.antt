-- RunFile: what bytes mean. Listing: what is printed. EveryFile: demand 3 of every file. Document 01, "The run file".
pub mod RunFile
pub mod Listing
pub mod EveryFile
pub mod FileNumbers
