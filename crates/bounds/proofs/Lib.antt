-- Both bounds of the search are upper bounds of what a series of removals saves.
pub mod Numbers
pub mod BoundLaws
pub mod ChainLaws
pub mod Savings
pub mod Steps
pub mod Bounds
pub mod Counting
pub mod Examples
