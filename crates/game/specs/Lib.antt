pub mod Reading
pub mod Voyages
pub mod Held
pub mod Waiting
pub mod Claims
pub mod Bounds
pub mod Worked
