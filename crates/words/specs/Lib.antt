-- What the crate's contracts cite: lists of words changed word by word, and lent slices.
pub mod Change
pub mod Lent
