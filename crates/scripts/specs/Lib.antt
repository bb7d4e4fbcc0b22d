-- What the crate's contracts cite. Meaning is what to believe: when two texts are accepted, and when and for which paper they are refused. Replies gives document 01's
-- numbers and values; Promises are the records of marking two texts; Marking are the steps, which compute. Inner is what the functions inside ask and answer.
pub mod Meaning
pub mod Replies
pub mod Marking
pub mod Inner
pub mod Promises
