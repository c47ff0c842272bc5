pub mod Battery
