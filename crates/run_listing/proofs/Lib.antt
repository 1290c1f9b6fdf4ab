-- What other crates may cite: the lowest and the highest of a phase end are those of any array that holds the positions of its unstruck heads (`Lowest`).
pub mod Heights
pub mod Lowest
pub mod Lines
pub mod OneHeld
