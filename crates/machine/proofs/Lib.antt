pub mod Counts
pub mod Draws
pub mod Places
pub mod Limits
pub mod Keeps
pub mod Runs
pub mod Outcomes
mod Checks
mod Effects
mod Readings
mod Tells
mod Right
mod Steps
mod Examples
mod Wrong
