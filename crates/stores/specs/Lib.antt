pub mod Faults
pub mod Pairs
pub mod Tallies
pub mod Texts
