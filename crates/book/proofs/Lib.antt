pub mod Binding
pub mod Ordering
pub mod Loading
pub mod Winning
pub mod Unique
pub mod Recovered
