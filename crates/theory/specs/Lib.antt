pub mod Levels
pub mod Sailing
