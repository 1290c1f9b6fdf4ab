-- Laws of the crate: what limits span, and how the call's checks go.
pub mod Spans
pub mod One
pub mod Fits
pub mod Answered
