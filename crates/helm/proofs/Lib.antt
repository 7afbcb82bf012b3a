pub mod Entries
pub mod Looks
pub mod Replies
pub mod Oldest
pub mod Worst
pub mod Told
pub mod Standing
