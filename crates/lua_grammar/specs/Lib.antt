pub mod Table
pub mod Grammar
pub mod Nesting
