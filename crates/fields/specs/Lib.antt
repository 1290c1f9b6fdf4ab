-- Fields of bytes, as document 01 lays them out: "every field of several bytes is little-endian".
pub mod Bytes
