-- The theory of building the table.
pub mod Writing
pub mod Noding
pub mod Meeting
pub mod Fitting
pub mod Stages
pub mod Stepping
pub mod Building
pub mod Answering
pub mod Counting
