mod Common
pub mod Serves
pub mod Marks
pub mod Rows
pub mod History
pub mod LastMarks
pub mod Order
pub mod OwnTurn
pub mod Lone
