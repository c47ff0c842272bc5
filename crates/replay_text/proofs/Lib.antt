pub mod Laws
pub mod Going
pub mod Bounds
pub mod Theorems
