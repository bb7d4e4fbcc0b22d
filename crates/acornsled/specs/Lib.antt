-- What the exported functions promise.
pub mod Promises
