-- Verdicts  the number of a refusal, from what a check answers
-- Openings  what was lent to an opening
pub mod Verdicts
pub mod Openings
