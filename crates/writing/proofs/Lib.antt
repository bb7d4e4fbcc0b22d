-- The laws of what is written that proofs cite.
pub mod Meanings
pub mod Members
pub mod HiddenLists
pub mod Lines
pub mod Lengths
pub mod Back
pub mod ListTexts
pub mod Texts
pub mod Counts
pub mod KeyLengths
pub mod TightLengths
pub mod Past
pub mod Numbers
pub mod Promised
pub mod Told
pub mod Frauds
pub mod Examples
