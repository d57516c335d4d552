mod Limited
pub mod Laws
