pub mod Numerals
pub mod StringReading
pub mod Comments
