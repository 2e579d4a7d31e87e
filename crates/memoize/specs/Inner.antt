-- Words that contracts of inner functions and proofs use. Nothing here needs to be believed: the memo is search's.
pub mod Stored
