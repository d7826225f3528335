pub mod Verdict
pub mod Following
pub mod Counts
pub mod Laws
pub mod Reports
