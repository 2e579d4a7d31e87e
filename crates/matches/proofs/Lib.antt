-- The theory of the match table. Other crates cite Laws alone.
pub mod Noting
pub mod ByLabel
pub mod Pairing
pub mod Once
pub mod Sizes
pub mod Listed
pub mod Complete
pub mod Ranks
pub mod Order
pub mod Descending
pub mod RowLaws
pub mod Recorded
pub mod Reading
pub mod Laws
