pub mod Defined
pub mod Turning
pub mod Giving
pub mod Answering
