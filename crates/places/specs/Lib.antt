-- What the crate's contracts cite: the numbering of terms.
pub mod Numbering
