pub mod Borders
pub mod Gathered
pub mod Growing
pub mod Held
pub mod Store
