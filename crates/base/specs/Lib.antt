pub mod Choosing
pub mod ContractLaws
pub mod ExactContracts
pub mod Refusal
pub mod RefusalLaws
pub mod Tests
