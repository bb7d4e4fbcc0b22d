-- The laws of marking two tables: the checks; a verdict by its number and values; a rule's opposite put in, and that sums fit
-- with it; the first rule that is broken; the verdict by demand 3 and the assignment that shows it; what the functions' proofs share; the frauds on named
-- tables, and calls that are ruled out whatever the verdict.
pub mod Checking
pub mod Carried
pub mod Breakable
pub mod Opposed
pub mod Finding
pub mod Lending
pub mod Reducing
pub mod Broken
pub mod Demand
pub mod Showing
pub mod OwnKeys
pub mod Promised
pub mod Told
pub mod Frauds
mod FraudCalls
