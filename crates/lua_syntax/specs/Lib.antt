pub mod Stacks
pub mod Refusal
pub mod Building
pub mod Reading
pub mod Steps
pub mod Nested
pub mod Language
