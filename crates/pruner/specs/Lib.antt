pub mod Pruned
pub mod Streaming
pub mod Lawful
