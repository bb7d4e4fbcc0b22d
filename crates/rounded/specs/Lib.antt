-- What the crate's contracts cite. Hiding is hiding with marks, which computes, and ByRules the same in the document's own words; Meaning is what the key call needs; Promises is what callers have to believe; Inner is what the functions inside ask and
-- answer.
pub mod Hiding
pub mod ByRules
pub mod Keys
pub mod Meaning
pub mod Promises
pub mod Inner
