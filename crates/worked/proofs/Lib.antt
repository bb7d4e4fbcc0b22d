-- The laws that the program's proofs cite.
mod Values
