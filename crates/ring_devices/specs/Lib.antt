-- Promised: what a ring of devices is promised. Devices: demand 3 of records that calls drive. Cables: which cables bring what they owe. Recovery: what
-- is left of a time with more than f marked.
pub mod Promised
pub mod Devices
pub mod Cables
pub mod Recovery
