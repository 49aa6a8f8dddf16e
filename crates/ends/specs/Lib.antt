-- The two ends, on the bytes:
-- Lists       words about lists
-- Calls       what a call answers and leaves; ranges with both their bounds
-- Responder   what either end makes of a range, and Answer
-- Opener      Open and Take
-- Converting  the label of a session kept from before: `converted`
-- Passing     what an unrefused call leaves passes check 4: `OpeningPasses`, `TakePasses`
-- Demand      what holds of every list of takes after one opening, two ends keeping to their tables and cuts: `Demand3`
-- Takes       lists of takes that differ in kind from each other, and what is owed of them: the words of the one theorem (proofs/Takes.antt)
-- Mixed       lists of takes in which each call may be given a byte limit and cut by either rule, and each take may be handed another table: `Demand3Mixed`
-- Labelled    the session's label at every place of such a list, and its conversion: `KnowsItsTable`
-- Versions    the answer to another version, and that the opener sends 61: `AnswersByVersion`, `Sends61`
-- Finished    two finished sessions, opened from either end: `WhoeverOpens`
-- Replies     sessions with replies of any kind: `TrueAndComplete`
-- AnyReplies  the same with byte limits, either rule and other tables: `TrueAndCompleteMixed`
-- Instance    lists of takes on bytes of which `Demand3`, `WhoeverOpens` and `TrueAndComplete` speak
pub mod Lists
pub mod Calls
pub mod Responder
pub mod Opener
pub mod Converting
pub mod Passing
pub mod Demand
pub mod Takes
pub mod Mixed
pub mod Labelled
pub mod Versions
pub mod Finished
pub mod Replies
pub mod AnyReplies
pub mod Instance
