pub mod Fields
pub mod ClockFields
pub mod Limits
