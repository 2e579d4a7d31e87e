-- What the theory of the search speaks of: what a state keeps and what is claimed of an answer; and joins one after another.
pub mod Claims
pub mod Joining
