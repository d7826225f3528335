pub mod Lengths
mod Counting
mod Composing
mod Parts
mod Directions
mod Sound
mod Processes
pub mod Runs
pub mod Follows
pub mod Statements
pub mod Branches
pub mod Loops
pub mod Trees
pub mod Agreement
pub mod Behaving
mod Examples
