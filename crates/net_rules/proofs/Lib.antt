pub mod Walks
pub mod Counting
mod LineOrder
mod FirstLoop
pub mod Costs
pub mod Waiting
pub mod Running
pub mod Rounds
pub mod Counted
pub mod SureBodies
pub mod Numbering
mod Tables
mod Sorting
mod Finding
mod Declaring
mod Passing
mod Knowing
mod FirstUsers
mod NumberingNames
mod Members
mod Joining
mod NumberingBlocks
mod Keeping
pub mod CheckedNets
mod Apart
mod Ranges
mod ByTables
mod Examples
