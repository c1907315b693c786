pub mod Finds
pub mod Meaning
pub mod Passes
