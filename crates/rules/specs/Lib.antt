-- What the crate's contracts cite. Meaning is what to believe of rules and assignments; Limits and Hidden name a paper's limits and decode the hidden set, by Bits;
-- Refusal gives the numbers and values of refusals, and Refusing says what it is to be refused by the first check that fails; Steps and RuleWords are the rule's
-- methods and its numbers, which compute; Promises are the contracts' records.
pub mod Bits
pub mod Limits
pub mod Hidden
pub mod Literal
pub mod Meaning
pub mod Steps
pub mod RuleWords
pub mod Refusal
pub mod Refusing
pub mod Promises
