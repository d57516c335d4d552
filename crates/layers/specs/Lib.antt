pub mod Layers
pub mod PileRefusals
pub mod Piles
pub mod PileMeanings
pub mod PileLaws
pub mod Layering
