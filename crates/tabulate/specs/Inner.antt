-- Words of inner contracts. Nothing here needs to be believed: the answers are Built's and Counted's.
pub mod Noded
pub mod Stage
pub mod Walked
pub mod PairsLeft
