-- The laws of rules that proofs above cite: of words that fields hold, of sets and how many they have, of literals and their integers, and of what a rule means after each
-- step.
pub mod Words
pub mod Quantities
pub mod Sets
pub mod Counts
pub mod Refusals
pub mod Literals
pub mod Meanings
mod Promised
mod Limits
mod Examples
