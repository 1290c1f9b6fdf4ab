-- A ring of records and frames, phase by phase, is a ring in the sense of `convergence`.
pub mod Receivers
pub mod Bounds
pub mod OneRound
pub mod Closings
pub mod OnePhase
pub mod Counts
pub mod HeadsAlone
pub mod Demand3
pub mod Agreed
pub mod Since
pub mod Late
pub mod Recovery
pub mod Unrefused
