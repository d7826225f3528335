pub mod Given
mod Answered
