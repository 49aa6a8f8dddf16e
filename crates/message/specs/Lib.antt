-- What the message layer means, in the order of the protocol text:
-- Reader       a reading of bytes: a value and what is left, or a refusal's number
-- Varint       numbers
-- Bound        bounds, their order, time codes and prefixes
-- Message      payloads, ranges and messages, read and spelled
-- WellFormed   the ranges that a message can carry
-- Meaning      the payload at each position, and the form that is written
-- Code         what the values of the code's types mean
-- Private      for contracts of functions that only our own crates call
pub mod Reader
pub mod Varint
pub mod Bound
pub mod Message
pub mod WellFormed
pub mod Meaning
pub mod Code
pub mod Private
