pub mod Explained
pub mod Statuses
pub mod Examples
pub mod Putting
pub mod RunAnswers
pub mod Fetching
mod ClockAnswers
pub mod Seeds
mod Networks
mod Opened
mod Reported
