-- The laws of marks that proofs above cite. Pointwise is about a list changed place by place, Testing and Counting are about bytes, WordOrder, Doubling and Splitting about words that carry
-- marks, Rules about rules that go into a table of such words, Losing about the marks of rules that are read.
pub mod Pointwise
pub mod Testing
pub mod Counting
pub mod WordOrder
pub mod Doubling
pub mod Splitting
pub mod Rules
pub mod Losing
mod Examples
