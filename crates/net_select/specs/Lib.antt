pub mod Selection
pub mod Behaves
pub mod Laws
pub mod HeldPorts
pub mod Emission
pub mod Selects
