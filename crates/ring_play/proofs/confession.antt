-- Laws: what the links gave in a confession round, and what is settled from it; and lists that are heard as they are.
pub mod Received
pub mod Settling
pub mod Honest
