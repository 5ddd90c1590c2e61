pub mod Lexing
pub mod Lawful
pub mod Places
