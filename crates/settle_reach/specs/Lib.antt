-- Document 02, A13: one entry open, to be set so that the ring settles on a wanted position. `Reach` says what is promised: open it first.
pub mod Reached
pub mod Reach
pub mod Call
pub mod Turning
