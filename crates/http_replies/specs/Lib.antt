pub mod Replies
pub mod ReplyForms
