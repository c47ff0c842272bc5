pub mod Size
pub mod Check
pub mod Accepted
