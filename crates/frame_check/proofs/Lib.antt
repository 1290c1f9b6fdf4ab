-- What other crates may cite: laws of the frame check.
pub mod Laws
pub mod Known
