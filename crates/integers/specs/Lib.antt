-- What the crate's contracts cite: the operations on a bound.
pub mod Bound
