-- A judge of replies:
-- Approved   which replies are approved, by places: `Approved`
-- Judge      the same as one test, and the call on the bytes: `judged`
-- Exact      the call says yes exactly to approved replies: `JudgedExactly`
-- Responder  every answer of our responder without a byte limit is approved: `ResponderApproved`
-- Sessions   what a session reports with approved replies is true and complete: `ApprovedReports`
-- Instance   a session on bytes with approved replies that our responder would cut otherwise
pub mod Approved
pub mod Judge
pub mod Exact
pub mod Responder
pub mod Sessions
