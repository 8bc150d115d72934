mod AtEnd
mod Tries
