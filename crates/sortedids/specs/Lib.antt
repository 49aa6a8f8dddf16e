-- For our own crates: the place of an id in a list that rises.
pub mod Rank
