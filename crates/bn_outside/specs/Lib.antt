pub mod Books
pub mod Calls
pub mod Counts
pub mod Files
pub mod Gates
pub mod InMemory
pub mod StoreCalls
pub mod Streams
