pub mod Headers
pub mod Segments
pub mod Loaded
pub mod Held
pub mod Laws
pub mod Examples
