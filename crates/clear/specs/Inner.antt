-- Words of inner contracts and of proofs.
pub mod Part
