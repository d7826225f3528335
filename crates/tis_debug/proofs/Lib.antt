pub mod First
pub mod Standing
pub mod Acting
pub mod ActionLists
pub mod Going
pub mod Negations
pub mod SessionLaws
mod Examples
