pub mod Views
pub mod Runs
pub mod Piles
pub mod Positions
pub mod Law
pub mod ToTheEnd
