mod Common
pub mod Digits
pub mod Bytes
pub mod Stepping
pub mod Sent
pub mod Lasting
pub mod Worked
pub mod Prefixes
pub mod Apart
pub mod ReadCounts
pub mod InTurn
