mod Common
pub mod Views
pub mod Nexts
pub mod Sources
pub mod Stops
pub mod Turns
pub mod Starts
pub mod Rows
pub mod Asks
pub mod Words
pub mod Machines
pub mod Fields
pub mod Contents
pub mod OfRows
pub mod Worked
pub mod Retained
pub mod Salvaged
