-- The theory of the desk.
pub mod Caching
