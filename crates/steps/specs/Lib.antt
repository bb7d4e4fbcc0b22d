-- What the crate's contracts cite. Steps are the table at a point of a hiding step, the checks and the reply, which compute; Meaning is what the call needs; Promises is what callers have to believe;
-- Inner is what the functions inside ask and answer.
pub mod Steps
pub mod Meaning
pub mod Promises
pub mod Inner
