pub mod Pictures
mod Examples
