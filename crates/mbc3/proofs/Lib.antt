pub mod Laws
pub mod FitLaws
