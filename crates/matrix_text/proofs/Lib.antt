pub mod Prefixes
pub mod RowLines
