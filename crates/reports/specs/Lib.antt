pub mod Explain
pub mod Sizes
