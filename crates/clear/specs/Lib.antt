-- A list with a part of zeros.
pub mod Inner
