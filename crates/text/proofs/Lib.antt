pub mod Over
pub mod Decimals
pub mod Modules
pub mod Printing
