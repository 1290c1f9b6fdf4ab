-- The calls, cut into the steps of the code: what private functions promise. Readers of the public promises do not need it.
pub mod Steps
