-- What build and count answer, and what the parts table holds while the match table is built.
pub mod Built
pub mod Counted
pub mod Inner
