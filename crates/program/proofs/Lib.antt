pub mod FirstUnread
pub mod Scenarios
pub mod BlockFacts
pub mod TalkFacts
pub mod ReplyFacts
pub mod Refusals
pub mod Rooms
