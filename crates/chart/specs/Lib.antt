pub mod Players
pub mod Arena
pub mod Names
pub mod Refusals
pub mod DeadEnds
