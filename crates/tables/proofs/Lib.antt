-- The laws of tables that proofs above cite.
pub mod Tests
pub mod Refusing
pub mod Sizes
pub mod Places
pub mod Values
pub mod Meanings
pub mod Limits
pub mod Giving
pub mod Naming
pub mod Replies
pub mod Putting
pub mod Without
pub mod Clearing
pub mod Needed
pub mod Lists
pub mod Promised
pub mod SheetA
mod Examples
