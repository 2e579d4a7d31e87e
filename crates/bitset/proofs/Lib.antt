-- The laws of sets: digits, sizes and order; members; tests on truth values; a tactic for set equations.
pub mod Bools
pub mod Laws
pub mod Members
pub mod Decide
