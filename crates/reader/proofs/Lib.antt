-- Laws of the definitions at a place of a message: the bytes from the place i on are `drop i m`.
-- Steps             one reading after another, and plain bytes
-- ReadingVarints, ReadingBounds, ReadingPayloads, ReadingRanges, ReadingMessages   what each reading comes to, by what the code has seen
-- Stepping          one range after another: `Stepping.next-range` for our own crates, and the theorem, `Stepping.stepping`
pub mod Steps
pub mod ReadingVarints
pub mod ReadingBounds
pub mod Listing
pub mod ReadingPayloads
pub mod ReadingRanges
pub mod ReadingMessages
pub mod Stepping
