mod CompareLaws
mod Decisions
mod Flags
