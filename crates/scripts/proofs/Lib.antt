-- The laws of two texts marked: what a fine text's rules and hidden list come to, when a script fits a sheet, and what each way that marking ends promises.
pub mod Rules
pub mod Sheets
pub mod Matching
pub mod Rooms
pub mod Papers
pub mod Alike
pub mod OwnKeys
pub mod Judging
pub mod Pairs
pub mod Promised
pub mod OwnRoom
pub mod ReadOnce
mod Frauds
