-- The laws of questions: of one question and one word, and of the call.
pub mod Answering
pub mod Finding
pub mod Cutting
pub mod Bits
pub mod Listing
pub mod Checking
pub mod TightWords
pub mod Promised
pub mod Told
mod Worked
