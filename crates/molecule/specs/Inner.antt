-- Words that contracts of inner functions and proofs use. Nothing here needs to be believed: the rows are Check's.
pub mod Finding
pub mod Growth
