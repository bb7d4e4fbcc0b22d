-- What the crate's contract cites: how many bytes may be told.
pub mod Counts
