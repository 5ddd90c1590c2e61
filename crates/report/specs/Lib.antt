pub mod Refusals
pub mod Text
pub mod Boxes
pub mod Report
pub mod Examples
