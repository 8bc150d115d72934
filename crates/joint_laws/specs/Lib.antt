pub mod Common
pub mod Recordings
pub mod Steps
pub mod Chains
pub mod Filled
pub mod Laws
pub mod Examples
pub mod Corpus
