pub mod Positions
pub mod Spots
pub mod Named
