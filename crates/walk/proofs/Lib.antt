pub mod Near
pub mod Going
pub mod Onwards
