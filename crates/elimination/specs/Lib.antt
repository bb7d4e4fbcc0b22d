-- What the crate's contracts cite. Hiding is document 01's step, which computes, and ByRules the same in the document's own words; Blocks is the order of its work; Choosing is how a
-- value is chosen, and Feasible what may be; Magnitude is what makes sums fit, and the range of an assignment; Promises are what callers have to believe, and Inner what the functions ask and
-- loops put in, for those who read the code.
pub mod Hiding
pub mod ByRules
pub mod Choosing
pub mod Feasible
pub mod Magnitude
pub mod Inner
pub mod Blocks
pub mod Promises
