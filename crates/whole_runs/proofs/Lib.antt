mod Common
pub mod Rows
pub mod Live
pub mod Counted
pub mod Seeds
pub mod Taken
pub mod Draws
pub mod Chosen
pub mod Errors
pub mod Follows
pub mod ScheduleEnds
pub mod Whole
pub mod Own
pub mod OwnTurns
pub mod Answered
