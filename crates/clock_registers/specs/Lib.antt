pub mod Fit
pub mod Seconds
pub mod Access
