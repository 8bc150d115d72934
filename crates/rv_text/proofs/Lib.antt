pub mod Parted
mod Joined
mod HexDigits
mod Counted
