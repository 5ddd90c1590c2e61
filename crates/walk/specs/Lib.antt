pub mod Boxes
pub mod Walks
pub mod Walkers
pub mod Onwards
