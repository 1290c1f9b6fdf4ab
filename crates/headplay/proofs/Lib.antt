-- A law that the proofs of these functions share: how a script is played.
mod Playing
