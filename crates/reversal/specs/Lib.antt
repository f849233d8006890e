pub mod Mirror
pub mod Deadlines
pub mod ReadOut
pub mod Laws
