-- For our own crates:
-- Walking  where a walk over a message stands
-- Adding   what the ranges of a reply add to the needed list
pub mod Walking
pub mod Adding
