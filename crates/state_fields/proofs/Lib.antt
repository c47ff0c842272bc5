pub mod Laws
pub mod StoredLaws
pub mod LimitLaws
