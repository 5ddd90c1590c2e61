pub mod Refusals
pub mod Filling
pub mod Orders
