pub mod Sessions
pub mod Shown
pub mod Scripts
pub mod Held
pub mod Laws
