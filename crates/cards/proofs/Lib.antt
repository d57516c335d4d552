mod Signs
mod Plain
mod Cuts
mod Counting
mod Shapes
mod Rejoined
