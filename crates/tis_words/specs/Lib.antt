pub mod Words
pub mod Lines
pub mod Numerals
pub mod Letters
pub mod Parts
pub mod Reads
