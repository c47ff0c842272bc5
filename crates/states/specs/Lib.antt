pub mod Layout
pub mod Reading
pub mod Plain
pub mod Widths
pub mod OnState
