-- The theory of score's code.
pub mod Capacity
pub mod Scoring
pub mod Starred
