-- The laws of all quantities paired, of what tightening keeps and lowers, and of the tightest table: its words are the least bounds. Then the tightest key by its definition, that the steps make it
-- and change nothing of a tight table; and what the functions' proofs share: the walk over the live quantities, strengthening as a pairing, and the contracts of `tighten` and `tight_key`. Last, wrong
-- tight keys of a named sheet, refuted by the definition.
pub mod Pairing
pub mod Growing
pub mod Holding
pub mod Keeping
pub mod Lower
pub mod Completing
pub mod ReachedBounds
pub mod Least
pub mod Tight
pub mod TightSteps
pub mod Again
pub mod Walking
pub mod Strengthening
pub mod Promised
pub mod TightMaking
pub mod FirstBelow
pub mod TightFrauds
