pub mod Answering
pub mod Awaiting
pub mod Rules
