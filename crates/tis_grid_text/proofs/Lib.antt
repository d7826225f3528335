pub mod EventLists
pub mod Readings
pub mod Puzzles
mod Examples
pub mod Heads
