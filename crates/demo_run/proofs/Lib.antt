mod Common
mod Counts
mod Joins
mod Whole
mod Shown
