-- The laws of keys with marks that the functions' proofs cite. Bounds and Same are about hiding with marks; Candidates, Document and InTurn say it by sums of rules. MarkedFits is about sums that fit, DoubledWords to PairMarks about one table of doubled bounds, Masking
-- to BesideHidden about two tables; Checking, Making and Promised about the call.
pub mod Bounds
pub mod Same
pub mod Candidates
pub mod Document
pub mod InTurn
pub mod MarkedFits
pub mod DoubledWords
pub mod Doubling
pub mod DoubledTurns
pub mod DoubledFits
pub mod DoubledSets
pub mod HalvesBelow
pub mod PairMarks
pub mod Masking
pub mod BesideStep
pub mod BesideKey
pub mod BesideMarks
pub mod BesideHidden
pub mod Checking
pub mod Making
pub mod Promised
pub mod Worked
