pub mod Table
pub mod Records
pub mod Fields
pub mod Columns
pub mod Faults
pub mod Reading
pub mod Checks
pub mod Identifiers
