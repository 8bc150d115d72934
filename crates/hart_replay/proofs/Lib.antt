mod Common
mod Exits
pub mod Listed
pub mod Lookups
pub mod Marks
pub mod Puts
pub mod Places
pub mod KnownRows
pub mod Alike
pub mod Counts
pub mod Going
pub mod Stepping
pub mod Asked
pub mod Skipped
