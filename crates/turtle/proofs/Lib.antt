pub mod Tests
pub mod Table
pub mod Turning
pub mod Steps
