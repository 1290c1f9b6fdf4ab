-- Hearing cut into the steps of the code: what a link says, before it is taken.
pub mod Steps
