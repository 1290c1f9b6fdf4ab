-- What is taken of what a frame said (Parts). What the reading functions promise each other is in Steps: readers of the public promises do
-- not need it.
pub mod Parts
pub mod Steps
