pub mod Worked
pub mod Once
pub mod OneAnswer
mod Reached
mod Found
mod TurnLaws
mod Growing
mod FoundParts
mod FoundExpressions
mod FoundStatements
pub mod Settling
