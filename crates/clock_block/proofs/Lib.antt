pub mod Laws
pub mod BackLaws
