pub mod Numbers
pub mod Texts
pub mod Pieces
pub mod Readers
pub mod Words
pub mod Cards
pub mod Faults
pub mod CardTexts
