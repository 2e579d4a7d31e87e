-- What the theory of the bounds speaks of: what counts of bonds save, and a series of removals without graphs.
pub mod Saving
pub mod Removals
