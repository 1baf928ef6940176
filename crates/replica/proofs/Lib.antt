pub mod Acknowledging
pub mod Answered
pub mod Begun
pub mod Casting
pub mod Confirming
pub mod Contracts
pub mod Methods
pub mod Taken
