-- Next: what a record changes, and what a refused one leaves. Inner: of private functions.
pub mod Next
pub mod Inner
