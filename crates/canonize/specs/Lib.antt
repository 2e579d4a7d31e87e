-- Document 01, 'Labels', as definitions that compute; the isomorphism of fragments in words; and label's whole answer.
pub mod Strings
pub mod Fragment
pub mod Label
pub mod Isomorphism
pub mod Unmarked
pub mod Answer
pub mod Inner
pub mod Examples
