pub mod Results
pub mod Operations
pub mod Functions
