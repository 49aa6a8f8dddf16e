-- Summing   the label of a table, summed id by id
-- Verdicts  what the answer of the checks with the label tells
pub mod Summing
pub mod Verdicts
