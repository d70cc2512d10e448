pub mod Ends
pub mod OneReply
pub mod Replied
