mod Common
pub mod Rows
pub mod Causes
pub mod Shared
pub mod Heads
pub mod Again
pub mod Parted
pub mod Decided
pub mod Walks
pub mod Tests
pub mod Worked
