pub mod Replies
pub mod Drums
