-- The laws of the step that proofs above cite: the elimination of one integer, a table term by term, the words of a paired table, what a step
-- means, that hiding is exact, what a chosen value means, and how much a step enlarges bounds; then what the functions' proofs share.
pub mod Projection
pub mod TermWords
pub mod Terms
pub mod SumWords
pub mod PairedWords
pub mod Step
pub mod Exact
pub mod Feasible
pub mod Growth
pub mod Unnamed
pub mod Fewer
pub mod Alike
pub mod DocumentTerms
pub mod Document
pub mod SumOver
pub mod Values
pub mod Addable
pub mod Lists
pub mod Rows
pub mod BareSums
pub mod Best
pub mod Blocks
pub mod BlockOrder
pub mod Promised
