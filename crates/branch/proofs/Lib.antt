-- The theory of a state's removals, and of a record's matches as rows. `recurse` and `assembly` cite it.
pub mod Branching
pub mod Listing
