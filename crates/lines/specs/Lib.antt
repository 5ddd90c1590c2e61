pub mod Records
pub mod Reading
pub mod Fits
pub mod Parts
pub mod Parsing
