pub mod Chains
pub mod Tables
