-- Document 01, 'Search': the two bounds as definitions that compute; and addition chains, whose lower bounds serve as their cost.
pub mod Numbers
pub mod Bounds
pub mod Chain
pub mod Inner
