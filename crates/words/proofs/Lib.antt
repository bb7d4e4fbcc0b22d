-- The laws of changed lists that proofs above cite, and what a lent slice rules out.
pub mod Change
mod Frauds
