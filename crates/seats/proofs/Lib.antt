pub mod Contracts
pub mod Masks
