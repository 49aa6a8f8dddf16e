-- For our own crates: the smallest of the ids that a reply adds.
pub mod Windows
