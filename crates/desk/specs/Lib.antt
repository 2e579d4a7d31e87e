-- What the desk's contracts speak of.
pub mod Inner
