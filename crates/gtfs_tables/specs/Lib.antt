pub mod Feed
pub mod Files
pub mod Catalog
pub mod FeedParts
pub mod NamedStops
pub mod Origins
pub mod Opportunities
