pub mod Trace
pub mod Reads
pub mod Noes
