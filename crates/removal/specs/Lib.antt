-- For our own crates: ids taken out of a list.
pub mod Removing
