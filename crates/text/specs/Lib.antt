pub mod Lines
pub mod Tokens
pub mod Reading
pub mod Writing
pub mod Pages
pub mod Laws
