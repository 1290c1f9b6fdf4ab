-- A ring of head records. Rounds: strikes, frames, rounds and phase ends. Converges: demand 3 of it. Late: the same with receivers that do
-- not adopt.
pub mod Rounds
pub mod Converges
pub mod Late
pub mod Agreed
pub mod Recovery
