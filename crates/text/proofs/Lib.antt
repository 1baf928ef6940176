pub mod Contracts
pub mod Putting
pub mod Reading
