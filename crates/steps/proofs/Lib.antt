-- Laws that the proofs of these functions share, and what is promised of answers.
pub mod Floor
pub mod Machine
pub mod OneStep
pub mod NoStep
pub mod Answers
