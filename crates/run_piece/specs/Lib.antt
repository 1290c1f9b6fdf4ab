-- Advances: what feeding bytes makes of the player and its memory. Steps: one step over a piece. Inner: how the step is cut.
pub mod Advances
pub mod Steps
pub mod Inner
