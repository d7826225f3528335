pub mod Defines
pub mod Plain
