pub mod Answering
pub mod EventsText
pub mod GridText
pub mod Soundness
