mod Common
pub mod Laid
pub mod Memory
pub mod Order
pub mod Refused
pub mod Words
