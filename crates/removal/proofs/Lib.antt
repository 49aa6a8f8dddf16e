-- Bitwise    bits of bytes: one read, one set
-- Blocks     marks window by window, and how many have room
-- Removing   ids of a list marked, those without a mark kept, block by block
-- Surveying  of ids, how many are in a list, and how many of the list are none of them, block by block
pub mod Bitwise
pub mod Blocks
pub mod Removing
pub mod Surveying
