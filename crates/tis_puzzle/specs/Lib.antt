pub mod Entries
pub mod Layout
pub mod LuaPuzzle
pub mod Answering
pub mod Calling
