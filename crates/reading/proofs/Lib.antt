-- Floats: OneFloat, Unrounded, Exactness (nothing is rounded), Patterns (the bits), Examples. Readings: Between, Heads.
pub mod OneFloat
pub mod Unrounded
pub mod Exactness
pub mod Patterns
pub mod Examples
pub mod Between
pub mod Heads
