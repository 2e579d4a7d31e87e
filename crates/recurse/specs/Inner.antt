-- The outcome of the code as that of the search's definition. Nothing here needs to be believed: the search is search's.
pub mod Follows
