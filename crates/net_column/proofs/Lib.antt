pub mod Bodies
pub mod Rounds
pub mod GridLaws
pub mod Stage
pub mod PassStage
pub mod Pipeline
pub mod BodyStage
pub mod ColumnStages
pub mod ColumnKahn
pub mod ColumnPrograms
pub mod Columns
pub mod Emitted
mod Fuel
pub mod Forms
pub mod Placing
mod SmallNets
