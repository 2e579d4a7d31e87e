-- The theory of states, their pieces and the scan.
pub mod Pieces
pub mod Trees
pub mod Scanning
