-- Judging     what each answer of the code says of a check, and the checks in their order
-- Due         check 16, by the ids that are found and the items that both have
-- Committing  what an inquiry shows, and what a commit after it answers and leaves
pub mod Judging
pub mod Due
pub mod Committing
