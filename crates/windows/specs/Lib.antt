pub mod Windows
pub mod Through
