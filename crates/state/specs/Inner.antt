-- What the code's states are held to: the states of the search's definitions, their pieces, and a scan of the matches.
pub mod Views
pub mod Pieces
pub mod Scan
