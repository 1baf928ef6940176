pub mod Contracts
pub mod Held
pub mod Judged
pub mod Masked
pub mod Pairs
