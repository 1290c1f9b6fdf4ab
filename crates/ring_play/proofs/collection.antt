-- Laws: what a frame says in a collection round, and the lists of one.
pub mod Positions
pub mod Lists
