-- Lists       membership by numbers, and ids in a buffer
-- Tables      what checks 1 to 3 leave of a table and a cut
-- Ranges, Messages, Projection   what the two ends write can be carried by a message, and is what the theory's ends send
-- Relations   what the theorem asks of an opening, of a reply and of an unrefused take: `Begun`, `Replied`, `Took`
-- Reports     marks and needed ids are those of the theory
-- Inserting   ids inserted into a list that rises, or left out of it: it stays so
-- Calls       what an unrefused call went through, and what a refused take leaves
-- Labels      check 18: what comparing two labels tells
-- Versions    the answer by the first byte of the query, `answers_by_version`; the opener sends 61, `sends_61`
-- Simulation  a place and the theory's session that agrees with it: at the opening, after a refused take, after an unrefused one
-- Passing     what an unrefused call leaves passes check 4
-- Standing    session, marks and needed list at every place: they pass check 4, and the session has the opener's label
-- Owed        what the theory claims of a session is so of the place
-- Takes       the theorem about lists of takes that differ in kind: `reported`, `owed_at`; what every place holds, `standing`
-- Own         the calls of the two ends meet the relations
-- Demand      the theorem for takes that are all alike, `demand3`
-- Mixed       takes and answers with byte limits, by either rule, and takes handed any table, `demand3_mixed`; what a session that is done left, `ended`
-- Labelled    the session's label at every place, and its conversion, `knows_its_table`
-- Finished    what finished sessions report, `whoever_opens`
-- Replies     lawful replies of any kind, `true_and_complete`
-- AnyReplies  the same with byte limits, either rule and other tables, `true_and_complete_mixed`
-- Instance    all that `Demand3`, `WhoeverOpens` and `TrueAndComplete` ask for, met on bytes
pub mod Lists
pub mod Tables
pub mod Ranges
pub mod Messages
pub mod Projection
pub mod Relations
pub mod Reports
pub mod Inserting
pub mod Calls
pub mod Labels
pub mod Versions
pub mod Simulation
pub mod Passing
pub mod Standing
pub mod Owed
pub mod Takes
pub mod Own
pub mod Demand
pub mod Mixed
pub mod Labelled
pub mod Finished
pub mod Replies
pub mod AnyReplies
pub mod Instance
