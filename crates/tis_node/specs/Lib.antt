pub mod NodeView
pub mod SupplyView
pub mod Intents
pub mod Rows
