-- What the crate's contracts cite. Meaning is what to believe: what satisfies a table, completes visible integers, is allowed. Places and Tables are
-- the steps, which compute; Replies is what a call answers; Given is a rule given by numbers; Promises are the contracts' records, with what each call needs.
pub mod Places
pub mod Tables
pub mod Replies
pub mod Meaning
pub mod Given
pub mod Promises
