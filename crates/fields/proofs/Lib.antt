-- What other crates may cite: laws of bytes; and how the machine reads and makes signs.
pub mod Bytes
pub mod Signs
pub mod Copying
