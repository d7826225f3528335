pub mod Legal
pub mod Resting
pub mod Once
mod Examples
mod Kept
mod Ways
mod Below
mod Intended
pub mod Halves
pub mod Room
pub mod Same
pub mod Runs
mod Sleeping
mod Visiting
