pub mod Places
pub mod Ports
pub mod Runs
pub mod Acting
pub mod Enabled
pub mod Total
pub mod Held
pub mod Steps
pub mod Fitting
pub mod Links
pub mod Edges
pub mod Counting
pub mod Grids
mod Examples
pub mod Listed
pub mod DrawnOrders
pub mod Outputs
pub mod Inputs
pub mod Starting
pub mod OrderRuns
pub mod Choosing
pub mod Drawing
pub mod Frames
mod Intended
pub mod Returning
pub mod PuzzlePorts
pub mod Holding
mod Writing
mod TileSets
pub mod Renewed
pub mod Marked
