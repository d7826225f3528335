pub mod Cycle
pub mod Laws
pub mod Turns
pub mod Runs
pub mod Sleepers
