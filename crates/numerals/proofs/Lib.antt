-- The laws of numerals, cursors and written bytes that proofs above cite.
pub mod Decimals
pub mod Splices
pub mod Cases
pub mod Keys
pub mod Cursors
pub mod Values
pub mod Reading
pub mod Numerals
pub mod Order
