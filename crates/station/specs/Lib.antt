pub mod Calls
pub mod EventLaws
pub mod WordLaws
pub mod Words
