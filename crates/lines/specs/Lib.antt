pub mod Hex
pub mod Noise
pub mod Numbers
pub mod Words
