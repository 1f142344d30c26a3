pub mod Appending
pub mod Staging
pub mod Journals
pub mod NotTaken
pub mod Making
pub mod Restarting
pub mod Replaying
