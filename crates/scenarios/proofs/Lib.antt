mod ShiftBounds
mod MovedEvents
mod KeptRuns
mod RunsTooLarge
pub mod MovedTrips
mod AddedShift
mod MovedRanges
mod RowRanges
mod TripRanges
mod LastShifts
mod FileFacts
mod CheckFacts
