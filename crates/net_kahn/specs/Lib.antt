pub mod Links
pub mod Machines
pub mod Written
pub mod Found
