pub mod Day
pub mod Services
pub mod Instances
pub mod FaultWords
