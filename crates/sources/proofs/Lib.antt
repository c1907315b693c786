pub mod Drawing
pub mod Generating
pub mod Looks
pub mod Rolling
pub mod Stocks
pub mod Words
pub mod Tabled
