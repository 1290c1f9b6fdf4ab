-- Planted frames in lent memory: a slot and a length for each link.
pub mod Slots
