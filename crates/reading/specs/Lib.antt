-- Exact: a number as a float. Bits: its bits from whole numbers. Exactness: what is claimed of floats. Readings: what a host reads of a
-- head. Heads: how calls change it.
pub mod Exact
pub mod Bits
pub mod Exactness
pub mod Readings
pub mod Heads
