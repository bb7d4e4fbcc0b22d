-- What the crate's contracts cite: kinds of bytes, numerals as they are spelled, how they are read, and how bytes are written into a buffer.
pub mod Bytes
pub mod Decimal
pub mod Parsing
pub mod Order
pub mod Writing
