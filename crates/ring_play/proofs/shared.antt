-- Laws: what receivers settle, and the trusted entries of one from what is given all alike and what is planted to it.
pub mod Settling
pub mod Counting
pub mod Told
