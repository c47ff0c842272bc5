pub mod Laws
pub mod Records
pub mod Widths
pub mod NoesLaws
