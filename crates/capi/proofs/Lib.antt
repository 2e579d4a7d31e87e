-- The theory of the C replies.
pub mod Replying
