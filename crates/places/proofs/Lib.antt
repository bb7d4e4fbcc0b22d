-- The laws of the numbering that proofs above cite.
pub mod Numbering
mod Examples
