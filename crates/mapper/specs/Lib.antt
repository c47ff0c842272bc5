pub mod Mappers
