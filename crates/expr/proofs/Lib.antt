pub mod Wide
pub mod Tables
pub mod Working
pub mod Gathering
pub mod Numbers
pub mod Quick
pub mod Examples
pub mod Ranges
