-- How what runs represents a recording: which machines, histories, harts, logs and runs of the definitions the code's values
-- represent.
pub mod Taken
pub mod Logs
pub mod Harts
pub mod Plain
pub mod Parts
pub mod EachCache
pub mod Turning
pub mod First
pub mod Tracing
pub mod InPlace
pub mod Accessed
pub mod Alone
