pub mod EndMarks
pub mod Faults
pub mod Ranges
pub mod Programs
pub mod Registers
pub mod Compared
