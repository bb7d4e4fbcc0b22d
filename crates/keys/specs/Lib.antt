-- What the crate's contracts cite. Meaning says what the two calls need and what hiding several is, by no algorithm; Promises are the calls' records, with
-- demand 2's meaning in them; Keys are document 01's steps and replies, which compute. Inner is what inner functions, here and in the crates above, ask and answer: how the
-- program eliminates the quantities of a part, each with the live ones alone, and so decides 'no assignment', which document 01 leaves free; and how it hides those of a set. Copies and Breaking are
-- the same of two functions that marking calls: the key copied out of such a table, and an assignment that breaks a rule.
pub mod Keys
pub mod Inner
pub mod Copies
pub mod Breaking
pub mod Meaning
pub mod Promises
