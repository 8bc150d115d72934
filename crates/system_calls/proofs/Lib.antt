mod Bytes
mod Exits
mod Parts
