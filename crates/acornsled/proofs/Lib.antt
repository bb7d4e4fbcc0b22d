-- What the exported functions' proofs share.
pub mod Promised
pub mod Tables
pub mod Asking
pub mod Frauds
