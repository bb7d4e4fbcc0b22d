-- What the crate's contracts cite. Questions says what a list's questions are, with the steps that answer them, which compute; Meaning is what the call needs; Replies gives the number and
-- values of a reply; Asking are the checks and the reply, which compute; Promises is what callers have to believe; Inner is what the functions inside ask and answer.
pub mod Questions
pub mod Meaning
pub mod Replies
pub mod Asking
pub mod Promises
pub mod Inner
