pub mod Tally
pub mod States
pub mod Calls
pub mod Runs
