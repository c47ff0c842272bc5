pub mod Header
pub mod Bus
pub mod Save
pub mod Windows
