pub mod Held
pub mod Lawful
