-- Document 01's record and the rows for check, section by section, as definitions that compute; and the graph of bonds.
pub mod Lists
pub mod Record
pub mod Touch
pub mod Check
pub mod Count
pub mod Verdict
pub mod Connected
pub mod Rounds
pub mod Tree
pub mod Graph
pub mod Unmarked
pub mod Inner
pub mod Examples
