pub mod Refusals
pub mod Sheets
pub mod Tallies
pub mod Records
pub mod Space
pub mod Pages
pub mod Recording
