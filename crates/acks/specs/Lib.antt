pub mod Acks
pub mod RowLaws
pub mod MostLaws
pub mod MarginLaws
