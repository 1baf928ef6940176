pub mod Contracts
pub mod Writing
