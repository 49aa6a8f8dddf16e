-- `writer::part::write_bound` meets its contract: three parts, one behind the other.
use Prim.Native.Nat.{◌+◌, ◌≤◌}
use native.Mathlib.Omega.{arith}
use lib.ListN.{length}
use Rattle.writer.proofs.Parts.{bound-room, bound-laid}
use Rattle.writer.proofs.part.write_bound.Goals as goal
use Rattle.writer.proofs.part.write_bound.Goals.{After-width}

fits : (c : After-width) → c.width-first.result + c.width.result + length c.prefix-prefix.result.now ≤ length c.args.out.now
fits c =
    let a = c.args in
    let size = bound-room _ _ _ _ a.bound a.beside.now _ c.requires.0 c.requires.1
    c.time_code-code.ensures c.prefix-prefix.ensures c.width-first.ensures c.width.ensures in
    omega (arith, size, c.requires.2)

pub overflow_add-both : goal.overflow_add-both
overflow_add-both c = omega (arith, fits (goal.at.overflow_add-both c).After-width)

pub slice_bounds-write_varint-count : goal.slice_bounds-write_varint-count
slice_bounds-write_varint-count c = omega (arith, fits (goal.at.slice_bounds-write_varint-count c).After-width)

pub slice_bounds-write_varint-start : goal.slice_bounds-write_varint-start
slice_bounds-write_varint-start c = omega (arith, fits (goal.at.slice_bounds-write_varint-start c).After-width)

pub overflow_add-both-2 : goal.overflow_add-both-2
overflow_add-both-2 c = omega (arith, fits (goal.at.overflow_add-both-2 c).After-width)

pub slice_bounds-copy_from_slice-end : goal.slice_bounds-copy_from_slice-end
slice_bounds-copy_from_slice-end c = omega (arith, fits (goal.at.slice_bounds-copy_from_slice-end c).After-width)

pub returns : goal.returns
returns c =
    let a = c.args in
    rw c.copy_from_slice.ensures.after
    (bound-laid a.last _ c.width-first.result c.width.result _ a.bound a.beside.now _ a.out.now c.write_varint.new.out c.write_varint-2.new.out
    c.requires.0 c.requires.1 c.requires.2 c.time_code-code.ensures c.prefix-prefix.ensures c.width-first.ensures c.width.ensures (omega arith)
    c.write_varint.ensures.out_after c.write_varint-2.ensures.out_after)
