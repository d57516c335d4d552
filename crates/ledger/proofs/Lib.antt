mod Places
mod Steps
mod Bests
pub mod Laws
