pub mod Ahead
pub mod Faults
pub mod Forms
pub mod Numbers
pub mod Refusals
pub mod Spelling
pub mod Words
