-- What the private functions promise each other. Readers of the public promises do not need these files.
pub mod Before
pub mod Struck
pub mod Walk
pub mod Collection
pub mod Sides
pub mod Codes
pub mod Votes
pub mod Shares
pub mod Planted
pub mod Told
pub mod Confession
