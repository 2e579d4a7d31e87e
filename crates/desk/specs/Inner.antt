-- Words that contracts of inner functions and proofs use. Nothing here needs to be believed.
pub mod Cached
