-- Held: a phase end as the player holds it. Heights, Texts: the lines as the code makes them. Inner: of private functions.
pub mod Held
pub mod Level
pub mod Heights
pub mod Texts
pub mod Inner
