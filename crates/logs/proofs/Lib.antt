pub mod Books
pub mod Parts
pub mod Tolds
