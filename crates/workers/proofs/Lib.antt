pub mod Shares
pub mod WholeRows
pub mod FoundRows
pub mod SeatSteps
pub mod KnowledgeGrows
mod NextJob
pub mod FullPlaces
pub mod Unique
pub mod JobCounts
pub mod HeldRowsGrow
pub mod OneMoreOfAll
pub mod OffersFill
pub mod RunEnds
pub mod Wholes
pub mod Columns
pub mod DoneAsDecided
pub mod AnyGate
pub mod LeftEmpty
