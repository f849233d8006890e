pub mod Boarding
pub mod Counted
pub mod CountedChunks
pub mod Eights
pub mod Marks
pub mod Orders
pub mod Plan
pub mod Waits
