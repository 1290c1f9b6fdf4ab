-- The common fields of a frame, and the frame check: document 01, "Frames". Kinds says which of its kinds the code's are.
pub mod Check
pub mod Kinds
