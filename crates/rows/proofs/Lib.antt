mod Fills
pub mod Held
