-- What the regions of the parts table hold while the fragments of one size are found and grouped.
pub mod Inner
