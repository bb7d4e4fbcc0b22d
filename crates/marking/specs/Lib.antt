-- What the crate's contracts cite. Meaning is what to believe: demand 3's conditions, the rule that a verdict carries, the assignment that shows it, and what marking
-- needs. Verdicts gives document 01's numbers and values; Promises is the record of marking two tables; Marking are the steps, which compute. Inner is what the
-- functions inside ask and answer.
pub mod Verdicts
pub mod Meaning
pub mod Marking
pub mod Promises
pub mod Inner
