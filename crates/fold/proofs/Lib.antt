-- Merging    items entered at their places: which there are then, how many, and that they rise
-- Laying     items laid at the front of a table's buffers, and read again; what the checks of the buffers say; whole ids in a buffer
-- Commits    what an unrefused commit went through, and what a refused one leaves; the merged table passes 1 and 2
-- Agreement  the inquiry and the commit agree, `inquiry_agrees`; what a commit leaves passes the checks of the next one, `commit_passes`
-- Needed     which ids are needed after commits, `needed-after-commits`
-- Union      our table is the union of both, `union_after_commits`; where no id is needed any more, all was delivered, `delivered_told`
-- Converted  after commits, too, the conversion gives the session back, `converted-after-commits`
-- Instance   all that `UnionAfterCommits` asks for, met on bytes, and the union there: `asked`, `comes_to`, `is_union`
pub mod Merging
pub mod Laying
pub mod Commits
pub mod Agreement
pub mod Needed
pub mod Union
pub mod Converted
pub mod Instance
