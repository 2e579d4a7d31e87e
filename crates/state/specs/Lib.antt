-- The definitions that states are held to are those of search; what stands here is for inner contracts and proofs.
pub mod Inner
