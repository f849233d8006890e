pub mod Front
pub mod Searched
pub mod Row
pub mod Laws
pub mod Search
