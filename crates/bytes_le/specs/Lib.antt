pub mod Little
