mod Fractions
mod Powers
mod Formulas
mod Enclosures
mod Nears
mod RootLaws
mod Walks
pub mod Laws
