pub mod Writing
pub mod Reading
pub mod ReadingBack
pub mod Soundness
pub mod Refusing
pub mod Heads
pub mod Blocks
