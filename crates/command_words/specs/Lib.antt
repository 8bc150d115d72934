pub mod App
pub mod Words
pub mod Examples
