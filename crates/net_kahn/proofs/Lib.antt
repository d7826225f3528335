pub mod Coming
pub mod Leaves
pub mod Finishing
pub mod Walking
pub mod Opening
pub mod Processes
pub mod LinkReads
pub mod Outs
