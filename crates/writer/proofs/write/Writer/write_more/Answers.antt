-- `writer::write::Writer::write_more` meets its contract.
use mathlib.Core.Path.{refl}
use native.Mathlib.Omega.{arith}
use borrow.Author.Rules.{rules}
use Rattle.writer.proofs.Steps.{more-length, room-behind, more-laid}
use Rattle.writer.proofs.write.Writer.write_more.Goals as goal

pub write_pending-requires : goal.write_pending-requires
write_pending-requires c =
    let a = c.args in
    let size = more-length a.self a.range a.source.now _ refl c.requires.3 c.requires.1 (search rules) c.requires.2 in
    (c.requires.0, omega (arith, size, c.requires.4))

pub slice_bounds-write_range-count : goal.slice_bounds-write_range-count
slice_bounds-write_range-count c =
    let a = c.args in
    (room-behind a.self a.range a.source.now _ refl c.requires.3 c.requires.1 (search rules) c.requires.2 _ a.out.now _
    c.pending_size.ensures.0 c.requires.4 c.write_pending.ensures).0

pub slice_bounds-write_range-start : goal.slice_bounds-write_range-start
slice_bounds-write_range-start c =
    let room = slice_bounds-write_range-count c in
    search rules

pub write_range-requires : goal.write_range-requires
write_range-requires c =
    let a = c.args in
    let room = room-behind a.self a.range a.source.now _ c.time.ensures c.requires.3 c.requires.1 (search rules) c.requires.2 _ a.out.now _
    c.pending_size.ensures.0 c.requires.4 c.write_pending.ensures in
    (c.requires.1, c.requires.2, room.1)

pub returns : goal.returns
returns c =
    let a = c.args in
    more-laid a.self a.range a.source.now _ c.time.ensures c.requires.3 c.requires.1 (search rules) c.requires.2 _ a.out.now _
    c.pending_size.ensures.0 c.requires.4 c.write_pending.ensures c.write_range.new.out c.write_range.ensures
