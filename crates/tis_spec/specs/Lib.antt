pub mod Specification
pub mod Answering
pub mod Laws
