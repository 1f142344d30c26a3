pub mod World
pub mod Inside
pub mod Replying
pub mod Pages
