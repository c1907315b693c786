pub mod Found
pub mod Ruling
pub mod Serving
