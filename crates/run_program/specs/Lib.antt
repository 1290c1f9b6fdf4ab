-- Calls: what the program asks of the system, and what that did. Running: what holds between calls. Runs: of a whole run. Inner: of private
-- functions.
pub mod Calls
pub mod Running
pub mod Runs
pub mod Inner
