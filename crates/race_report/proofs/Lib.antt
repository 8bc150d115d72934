mod Common
mod Worked
pub mod Touched
pub mod Lists
pub mod Rounds
pub mod Ordered
pub mod Prefixes
pub mod Following
pub mod Growing
pub mod Tracking
pub mod Walking
pub mod Taking
pub mod Counting
pub mod Stepping
pub mod Orders
pub mod Agreeing
pub mod Counted
pub mod Listed
pub mod Ascending
pub mod Alike
pub mod OwnRows
