mod Common
pub mod Asked
pub mod Along
pub mod Cases
pub mod Telling
pub mod Lists
pub mod Ecalls
pub mod Plans
pub mod Writers
pub mod Filling
pub mod Sending
pub mod Places
pub mod Codes
pub mod Intervals
pub mod Whole
pub mod Worked
