pub mod Causes
pub mod Ledger
pub mod Places
pub mod Worsts
