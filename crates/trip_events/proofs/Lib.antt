pub mod FillFacts
pub mod EventFacts
pub mod OneOrder
pub mod SortedFacts
pub mod TripTimeFacts
pub mod TimeFacts
pub mod RecordsAscend
