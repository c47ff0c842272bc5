pub mod ClockWindow
pub mod Advance
