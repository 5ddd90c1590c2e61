pub mod Collecting
pub mod Counting
pub mod Depths
pub mod Judging
pub mod Picking
pub mod Searching
