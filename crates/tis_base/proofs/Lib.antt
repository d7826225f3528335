pub mod Texts
pub mod Writes
pub mod Always
pub mod Prefixes
pub mod WrittenLines
pub mod Saturating
pub mod NextLine
