pub mod Values
pub mod Codes
pub mod Records
pub mod Machine
pub mod Quick
pub mod Examples
