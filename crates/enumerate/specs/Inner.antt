-- Words of inner contracts.
pub mod Bucketed
pub mod Grouped
