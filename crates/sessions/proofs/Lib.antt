pub mod Ending
pub mod Entering
pub mod Framing
pub mod Lending
pub mod Lengths
pub mod Performs
