pub mod Refusing
pub mod ExportedCalls
pub mod PublicCalls
pub mod Boundary
pub mod Bench
pub mod WaysBack
