-- What the crate's contracts cite. Order, Meaning and Promises are what to believe: the order of a bank sheet's rules, when a text is accepted or refused, with no reading in it, and the contracts'
-- records; Banking are the steps, which compute.
pub mod Order
pub mod Meaning
pub mod Banking
pub mod Promises
