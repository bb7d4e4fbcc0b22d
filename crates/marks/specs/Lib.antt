-- What the crate's contracts cite. Marks is what a mark is and how marked rules meet, Bytes the bytes that are lent, Doubled how a table carries its marks in its words.
pub mod Marks
pub mod Bytes
pub mod Doubled
