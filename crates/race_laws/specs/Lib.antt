pub mod Common
pub mod Edges
pub mod Pairs
pub mod Runs
pub mod Since
pub mod Orders
pub mod Laws
pub mod Examples
