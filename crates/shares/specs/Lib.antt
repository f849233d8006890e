pub mod Percentiles
pub mod Planes
pub mod Ranks
pub mod Opportunities
pub mod Laws
