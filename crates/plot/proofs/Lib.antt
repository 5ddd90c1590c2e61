pub mod Coming
pub mod Walking
pub mod Law
pub mod Running
