pub mod Tables
pub mod Rules
pub mod Solving
pub mod Sheets
pub mod Promise
