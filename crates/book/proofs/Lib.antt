mod Uses
mod Making
mod Stays
mod Performing
pub mod Laws
