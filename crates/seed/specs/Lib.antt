pub mod Seeds
pub mod Parts
pub mod Left
pub mod Written
pub mod Forming
pub mod Telling
pub mod Lawfully
