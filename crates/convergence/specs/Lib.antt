-- Document 01's rounds on what the links carry, without bytes, in the order in which they are read. `Demand3` states the
-- promise; `Recovery` the same from any phase end on.
pub mod Settling
pub mod Trust
pub mod Phases
pub mod Demand3
pub mod Recovery
