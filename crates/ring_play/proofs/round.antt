-- Laws: frames read; a memory filled head by head; who settles; struck heads, one after another.
pub mod Frames
pub mod Filling
pub mod Receivers
pub mod Struck
