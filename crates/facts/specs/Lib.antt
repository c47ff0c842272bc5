pub mod Choice
pub mod Refusals
pub mod Counter
pub mod Banking
pub mod Listed
