mod Examples
pub mod Streams
pub mod Pictures
pub mod Following
pub mod Verdicts
mod Firsts
