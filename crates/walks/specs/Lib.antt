pub mod Games
pub mod Showings
pub mod Tables
