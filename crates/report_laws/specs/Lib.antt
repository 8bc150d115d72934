pub mod Recorded
pub mod Laws
pub mod Examples
