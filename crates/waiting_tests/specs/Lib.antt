pub mod Lone
pub mod Sound
