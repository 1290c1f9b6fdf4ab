-- Played: the pending round, played. Converged: demand 3 of the positions held. Inner: of private functions.
pub mod Played
pub mod Agrees
pub mod Converged
pub mod Inner
