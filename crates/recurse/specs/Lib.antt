-- What contracts of inner functions and proofs use.
pub mod Inner
