pub mod WindowLaws
pub mod AdvanceLaws
pub mod FitLaws
