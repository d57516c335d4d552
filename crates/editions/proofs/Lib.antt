mod Terms
mod ChordLaws
pub mod Laws
