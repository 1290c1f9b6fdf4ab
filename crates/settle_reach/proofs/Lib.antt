-- Laws of the crate: the open entry inserted last, what it moves, the lowest position that is wanted, and how the call's checks go.
pub mod Insert
pub mod Search
pub mod Turned
pub mod Machine
pub mod Fits
pub mod Settled
pub mod Answered
pub mod One
