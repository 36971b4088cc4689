pub mod Names
pub mod Called
pub mod Naming
