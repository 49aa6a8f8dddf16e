-- Batches of items folded into the opener's table, once a session is done:
-- Fold       the inquiry and the commit
-- Commits    commits one after another, and which ids are needed after them: `NeededAfterCommits`
-- Agreement  the inquiry and the commit agree: `InquiryAgrees`; what a commit leaves passes the checks of the next one: `CommitPasses`
-- Union      what our table is after commits that delivered the whole needed list, and that no id is needed then: `UnionAfterCommits`; the other way round,
--            `DeliveredTold`
-- Converted  what a conversion gives after commits: `ConvertedAfterCommits`
-- Instance   commits on bytes of which `UnionAfterCommits` speaks
pub mod Fold
pub mod Commits
pub mod Agreement
pub mod Union
pub mod Converted
pub mod Instance
