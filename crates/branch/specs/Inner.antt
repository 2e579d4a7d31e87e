-- What the code's branches are held to: the states that may be entered, the removals that are tried, what they are tried from, and the state after each.
pub mod Entered
pub mod Trying
pub mod Branching
