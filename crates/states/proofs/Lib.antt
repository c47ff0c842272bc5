pub mod Laws
pub mod BackLaws
pub mod PlainLaws
pub mod FitLaws
pub mod Back
pub mod Unused
