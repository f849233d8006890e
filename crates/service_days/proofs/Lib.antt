mod ServiceMarks
pub mod RunLists
mod DepartureCounts
pub mod RunFacts
