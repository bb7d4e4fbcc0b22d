-- What the crate's contracts cite. Tightening are the steps, which compute; Meaning is the tightest key by meaning alone; Promises is what callers have to believe, with what a least bound
-- means; Below is the same of the first rule below another table's word; Inner is what the functions inside ask and answer.
pub mod Tightening
pub mod Meaning
pub mod Inner
pub mod Promises
pub mod Below
