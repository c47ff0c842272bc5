pub mod Fit
pub mod Ticking
pub mod Access
