-- Laws: entries as codes, the code that most lists have, and the trusted entries of a receiver.
pub mod Storing
pub mod Codes
pub mod Votes
pub mod Lists
pub mod Sharing
pub mod Trusting
