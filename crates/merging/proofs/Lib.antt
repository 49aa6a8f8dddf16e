-- Walking  the items that a table and a batch both have, by one walk over both
-- Merging  a batch merged into the buffers of a table, from the back
pub mod Walking
pub mod Merging
