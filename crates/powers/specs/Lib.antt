pub mod Fractions
pub mod Powers
pub mod Formulas
pub mod Enclosures
pub mod Digits
pub mod Theorems
