pub mod Contracts
pub mod HexText
pub mod Lanes
pub mod Marks
pub mod Scan
pub mod Windows
