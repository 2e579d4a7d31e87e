-- What the memo's contracts speak of.
pub mod Inner
