pub mod Column
pub mod Compiled
pub mod Emission
pub mod Carries
pub mod Form
pub mod Answers
pub mod Laws
