-- Places      ranges that stand in a message, and the payload at each place
-- Meeting     the ranges that meet a range, and the same by places
-- Exact       the test agrees with the conditions, `approves_exact`
-- Projection  the ranges of a message, and those of the theory's message that it is
-- Lawful      an approved reply is a lawful one to the theory, `approved-lawful`
-- Verdict     what a yes says of the bytes, `judged_exactly` and `judged-lawful`
-- Along       what is made of a range stands where it stood, also when tidied
-- Answering   what the theory's responder makes of each range, by places
-- Responder   every answer of our responder is approved, `responder_approved`
-- Sessions    reports with approved replies are true and complete, `approved-reports`
pub mod Places
pub mod Meeting
pub mod Exact
pub mod Projection
pub mod Lawful
pub mod Verdict
pub mod Along
pub mod Answering
pub mod Responder
pub mod Sessions
