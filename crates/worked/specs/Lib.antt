-- What the program's contracts cite: the value of a rule's term.
pub mod Values
