mod Usables
pub mod Laws
