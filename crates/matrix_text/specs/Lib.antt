pub mod Prefixes
pub mod Text
pub mod FaultWords
