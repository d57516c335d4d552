pub mod Kinds
pub mod Signs
pub mod Limits
pub mod Refusals
