pub mod Common
pub mod Given
pub mod Recorded
pub mod Laws
pub mod Examples
pub mod Retained
