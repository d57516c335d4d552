pub mod Openings
pub mod Uses
pub mod Checks
pub mod Steps
pub mod Standing
pub mod Runs
