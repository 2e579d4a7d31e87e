-- Document 01, 'Search' and score's part of 'Answers and turned-back records', as definitions that compute; and what is stated of them.
pub mod Setting
pub mod Trail
pub mod State
pub mod Memo
pub mod Search
pub mod Series
pub mod Pathway
pub mod Answer
pub mod OneTree
pub mod Examples
pub mod Inner
