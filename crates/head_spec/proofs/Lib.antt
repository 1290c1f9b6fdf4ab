-- Laws of the head's calls.
pub mod Proper
pub mod Taking
pub mod Hearing
pub mod Range
pub mod RoundEnd
pub mod RoundClose
pub mod Speaking
pub mod Stops
pub mod Batches
pub mod BatchLoop
pub mod Demand2
pub mod Ranges
pub mod Offers
pub mod Since
