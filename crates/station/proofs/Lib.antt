pub mod Contracts
pub mod Gathering
pub mod Kept
