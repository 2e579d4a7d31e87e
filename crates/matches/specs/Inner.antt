-- The order of nodes by size and label; and what the code over the match table is held to: matches in descending order with no sort, and the lent words.
pub mod Ranks
pub mod Descending
pub mod Written
