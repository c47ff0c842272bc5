pub mod Bus
pub mod Advance
pub mod Run
