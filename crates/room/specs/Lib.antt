-- For our own crates: the needed list with part of what a reply adds.
pub mod Counts
