pub mod Growing
pub mod Lengths
pub mod Signs
