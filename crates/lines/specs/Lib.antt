-- What the crate's contracts cite. Spelling and Lines are what to believe: how each line of a text is spelled with the limits of its numbers, and, as steps
-- that compute, how it is judged. Answers are that as the program hands it out. Inner is what private functions answer.
pub mod Spelling
pub mod Lines
pub mod Answers
pub mod Inner
