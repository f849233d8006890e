pub mod Row
pub mod Places
pub mod Offers
pub mod Plain
pub mod Laws
