-- Laws of the crate: what a slot holds, and what the slots hold after bytes are stored in one.
pub mod Parts
pub mod Slots
