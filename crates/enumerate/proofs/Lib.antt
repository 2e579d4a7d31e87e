-- The theory of finding and grouping. `tabulate` cites it.
pub mod Chains
pub mod Extending
pub mod Candidates
pub mod Placing
pub mod Grouping
