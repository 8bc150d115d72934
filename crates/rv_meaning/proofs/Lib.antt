mod Common
pub mod OneStep
pub mod Orderly
pub mod WordsKept
pub mod Held
pub mod QuietOps
pub mod DecodedAhead
pub mod MaskedStore
