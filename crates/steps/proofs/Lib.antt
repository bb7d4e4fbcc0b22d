-- The laws of following a step that the functions' proofs cite.
pub mod Listing
pub mod Checking
pub mod Following
pub mod Promised
pub mod Worked
