-- What a record of a script does.
pub mod Calls
pub mod Script
