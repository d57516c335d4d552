pub mod Forces
pub mod Reckoners
pub mod Bindings
pub mod Steps
pub mod Verdicts
