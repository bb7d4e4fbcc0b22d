-- The laws of keys: several quantities hidden, all paired, 'no assignment', sums that fit, values read back; what the calls' proofs share; two sheets of
-- document 01 and the frauds on named sheets.
pub mod Several
pub mod Fitting
pub mod Turning
pub mod Listing
pub mod AtTurns
pub mod Parts
pub mod KeyCopies
pub mod ReadBack
pub mod Copying
pub mod Deciding
pub mod Filling
pub mod Puts
pub mod Opposites
pub mod Taking
pub mod Hiding
pub mod Visible
pub mod Making
pub mod Checking
pub mod InTurn
pub mod Promised
pub mod Sheets
pub mod Frauds
pub mod FraudMeanings
