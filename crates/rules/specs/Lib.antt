pub mod Records
pub mod Layout
pub mod Places
pub mod Refusals
pub mod Wrong
pub mod Drafts
pub mod Picked
