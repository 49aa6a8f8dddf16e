-- The byte limit of an end:
-- Limit  the ranges that an end with a byte limit sends, and check 14
-- Sent   what holds of every message that is sent so
pub mod Limit
pub mod Sent
