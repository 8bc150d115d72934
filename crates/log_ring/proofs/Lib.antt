mod Common
pub mod Cuts
pub mod Fitting
pub mod Waits
