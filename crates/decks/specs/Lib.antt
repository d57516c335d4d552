pub mod Faults
pub mod Desks
pub mod Sessions
pub mod Outputs
pub mod Responses
