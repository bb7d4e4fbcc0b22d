-- What the crate's contracts cite. Writing are the steps: what a table writes, and the reply; Promises are the contracts' records, and what to believe of the
-- text written; Inner is what private functions are asked.
pub mod Writing
pub mod Promises
pub mod Inner
