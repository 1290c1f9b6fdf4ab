-- How the entries are decided, and how that goes by a reference list. What the settling functions promise is said by `settle_midpoint` and
-- `convergence`.
pub mod Reference
pub mod Deciding
