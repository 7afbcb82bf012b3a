pub mod Rules
pub mod Rows
pub mod Meaning
pub mod Readings
