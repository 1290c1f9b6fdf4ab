-- What other crates may cite: laws of frames read and written.
pub mod Accepting
pub mod Listing
pub mod FieldByField
pub mod Fronts
pub mod ReadsBack
pub mod OneMeaning
pub mod Tables
