-- Words that contracts of inner functions use. Nothing here needs to be believed.
pub mod Parts
