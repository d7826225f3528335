pub mod Forms
pub mod Refusals
pub mod Grammar
pub mod Reading
pub mod FormView
pub mod ReaderView
pub mod UnreadView
pub mod Laws
