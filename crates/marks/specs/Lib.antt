-- Mark words: "bit j is set" for entry j of a list, and for head j of a round.
pub mod Marks
