-- The laws of what the programs print: that it tells the reply; a key's text and what *key* prints; a verdict's and a refusal's lines and what *mark* prints;
-- cases of whole texts, and frauds.
pub mod RefusalLengths
pub mod PrintedReplies
pub mod KeyTexts
pub mod TightTexts
pub mod KeyTextsMade
pub mod Reports
pub mod TableReports
pub mod SheetTables
pub mod MarkTexts
pub mod MarkRoom
pub mod PrintedIntegers
pub mod MarkPromised
pub mod Cases
pub mod Shown
pub mod Starred
pub mod Tightest
pub mod Frauds
