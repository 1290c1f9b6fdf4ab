-- A ring of devices is a ring of records.
pub mod Heard
pub mod Planting
pub mod OneRound
pub mod Devices
pub mod Pairs
pub mod Cables
pub mod Recovery
