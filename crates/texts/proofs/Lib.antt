pub mod Cuts
pub mod Fill
