pub mod Walks
pub mod Keeping
pub mod Long
pub mod Attractors
pub mod Determined
pub mod Apart
