-- The laws of bank sheets: one rule, the rules of a table, those of a text in bank order; then what the readings have in common, and what the calls' proofs share.
pub mod CanonicalRules
pub mod TableOrder
pub mod Canonical
pub mod SheetTables
pub mod WrittenTexts
pub mod Ordering
pub mod Headers
pub mod Agreeing
pub mod BankChecking
pub mod OrderTold
pub mod Means
pub mod Promised
pub mod Worked
