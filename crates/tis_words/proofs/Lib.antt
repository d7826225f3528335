pub mod Cutting
pub mod Written
mod Digits
pub mod Counting
mod Examples
