pub mod Covering
mod Going
