-- Answers   what the reader's answers say, and the places that they give
-- Stepping  what a cursor that is stepped through a whole message gives: `Stepping`
-- Private   for contracts of private functions, and of functions that only our own crates call
pub mod Answers
pub mod Stepping
pub mod Private
