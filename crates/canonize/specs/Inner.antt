-- Words that contracts of inner functions and proofs use. Nothing here needs to be believed: the label is Label's, its answer is Answer's.
pub mod Slate
pub mod Places
pub mod Words
