pub mod Files
pub mod Window
pub mod Numbers
pub mod Lines
pub mod Paths
pub mod Words
pub mod Questions
