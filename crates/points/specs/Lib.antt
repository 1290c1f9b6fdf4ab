-- The starred points of document 01, as a table with a joint theorem.
pub mod Starred
