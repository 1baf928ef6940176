pub mod Contracts
pub mod Half
pub mod Signs
pub mod Tally
