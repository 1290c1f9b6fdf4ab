-- Memory: what is lent to the player. Heads, State: which file it and the player hold. Changes, Counts, Places: the player's numbers.
pub mod Counts
pub mod Changes
pub mod Places
pub mod Memory
pub mod Heads
pub mod State
