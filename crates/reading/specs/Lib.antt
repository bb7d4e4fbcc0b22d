-- What the crate's contracts cite. Texts, Meaning and Promises are what to believe: how a text is spelled, when it is accepted or refused, with no reading in
-- them, and the contracts' records; Reading and Ordered are the steps, which compute, and what is returned. Inner is what private functions answer.
pub mod Texts
pub mod Meaning
pub mod Reading
pub mod Ordered
pub mod Promises
pub mod Inner
