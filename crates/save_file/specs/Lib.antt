pub mod Admit
pub mod Save
pub mod Load
