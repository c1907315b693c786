pub mod Ends
pub mod Frames
pub mod Lends
pub mod Opening
pub mod Performing
pub mod Tallies
