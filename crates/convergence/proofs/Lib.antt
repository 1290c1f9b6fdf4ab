-- The proof of demand 3 for a ring played on what its links carry: `Demand3` has the theorem, and the modules before it its parts, in order.
pub mod Order
pub mod Insertion
pub mod Support
pub mod Kept
pub mod OnePhase
pub mod OneRound
pub mod Links
pub mod Halves
pub mod Ends
pub mod Demand3
pub mod Same
pub mod Recovery
pub mod Quiet
pub mod Compare
pub mod Tight
pub mod Listeners
