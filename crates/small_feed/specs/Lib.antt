pub mod SmallFeed
