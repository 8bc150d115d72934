pub mod Files
pub mod Audits
