pub mod Order
pub mod TripTimes
pub mod Fill
pub mod StopTimes
pub mod WholeTrips
