pub mod Cutting
pub mod Judging
