mod Common
mod Values
