pub mod Growing
pub mod Feeding
pub mod Calm
pub mod Planting
