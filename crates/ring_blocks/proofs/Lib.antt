-- Blocks that C drives by calls are devices.
pub mod Opened
pub mod Kept
pub mod Calls
pub mod Converges
pub mod Cables
pub mod Fewer
pub mod Recovery
