mod Common
pub mod Prints
pub mod Rows
pub mod Loads
pub mod Tells
pub mod Causes
pub mod Acts
pub mod Shows
pub mod Joins
pub mod Renewals
pub mod Fetched
pub mod SamePair
mod Sealed
pub mod FileCalls
pub mod Answering
pub mod Answered
pub mod Kept
pub mod SaveCounts
pub mod StatusesApart
pub mod Worked
