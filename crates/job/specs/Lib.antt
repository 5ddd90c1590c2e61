pub mod Jobs
pub mod Reading
