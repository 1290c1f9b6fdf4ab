-- What a round played on the heads' memory promises. What the private functions promise each other is in `Inner`.
pub mod Memory
pub mod Inner
