mod Common
pub mod Apart
pub mod Below
pub mod Bits
pub mod Both
pub mod Inside
pub mod Latest
pub mod Listed
pub mod Numbers
pub mod Order
pub mod Others
pub mod Second
pub mod Standing
pub mod Warmth
