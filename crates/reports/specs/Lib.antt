-- What the crate's contracts cite. Meaning is what to believe of a key's text and a verdict's; Promises are the records of what the programs print; Refusals,
-- Reports and Marks are the steps: the bytes. Inner is what the functions inside ask.
pub mod Refusals
pub mod Reports
pub mod Marks
pub mod Meaning
pub mod Promises
pub mod Inner
