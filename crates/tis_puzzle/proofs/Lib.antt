mod FoundKinds
mod EntryPuzzles
pub mod LuaPuzzles
pub mod Called
