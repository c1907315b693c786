pub mod Calls
pub mod Faults
pub mod Texts
pub mod Names
pub mod Machine
pub mod History
pub mod Law
pub mod Runs
