pub mod ChoiceLaws
pub mod RefusalLaws
pub mod CounterLaws
pub mod BankingLaws
pub mod BitLaws
pub mod ListLaws
pub mod Handed
