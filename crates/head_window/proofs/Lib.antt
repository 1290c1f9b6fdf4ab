-- Laws of bits, for the proofs of the functions.
mod Bits
