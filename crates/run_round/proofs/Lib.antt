-- A player that keeps positions and lists apart from the head records holds what the records hold (`Carried` to `Waiting`), and shows a line for each phase that
-- it plays (`Shown`, `Rounds`). The positions that it holds keep demand 3 (`Converging`), so that a
-- ring that has agreed stays so (`Agreeing`).
pub mod Carried
pub mod Keeping
pub mod Waiting
pub mod Shown
pub mod Converging
pub mod Agreeing
pub mod Rounds
pub mod Agreement
