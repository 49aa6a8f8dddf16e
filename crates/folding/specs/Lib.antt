-- The calls that fold a batch in:
-- Code  what the values of the code's types mean
pub mod Code
