pub mod Padded
pub mod Limits
pub mod Calls
pub mod Kept
pub mod Time
pub mod Advances
pub mod Saves
pub mod Game
