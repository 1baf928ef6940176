pub mod Contracts
pub mod Instances
