-- The laws of integers that proofs above cite.
pub mod Parts
pub mod Orders
pub mod Within
pub mod Halving
mod Examples
