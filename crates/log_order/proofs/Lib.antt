mod Common
pub mod Firsts
pub mod Weaker
pub mod Fronts
pub mod Suffixes
pub mod Takes
