mod Common
mod Followed
mod FormatOne
mod LoneLists
mod Verdicts
