pub mod Symbols
pub mod Words
pub mod Records
pub mod Text
pub mod Spans
