-- Sending  a message that was measured, and then written
-- Halts    where handing over stops
-- Opening  where the first query does
-- Replies  where an answer or a next query does
-- Passes   two passes stop at the same range
-- Closed   the ranges that close a message, and the run before them
pub mod Sending
pub mod Halts
pub mod Opening
pub mod Replies
pub mod Passes
pub mod Closed
