-- The smallest of the ids that a reply adds, one after another.
pub mod Selecting
