-- What each command is that a log isn't enough for.
pub mod Record
