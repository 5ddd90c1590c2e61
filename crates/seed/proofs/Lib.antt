pub mod Cutting
pub mod Spelling
pub mod Listing
pub mod Commas
pub mod Judging
