mod Common
mod Laws
mod Ranges
mod Touched
