pub mod Answers
pub mod Runs
pub mod Nets
pub mod Ends
pub mod Commands
pub mod Outcomes
pub mod Statuses
pub mod Refusals
