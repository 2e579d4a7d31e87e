-- The theory of the memo table.
pub mod Keys
pub mod Filling
pub mod Entries
pub mod Standing
pub mod Asking
