-- The theory of the search's code.
pub mod Turns
