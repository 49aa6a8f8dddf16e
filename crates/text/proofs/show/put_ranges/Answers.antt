use Rattle.std.proofs.Common.{Result, Ok, ◌≡◌, ℕ, ◌+◌, ◌<◌, ◌≤◌, List, length, arith}
use Rattle.message.specs.Code.{range_of}
use Rattle.message.specs.WellFormed.{Bytes}
use Rattle.message.specs.declared.Refusal.{Refusal}
use Rattle.reader.specs.Stepping.{starts, ReadAt}
use Rattle.reader.specs.declared.range.RangeCursor.{RangeCursor}
use Rattle.reader.specs.declared.range.RangeRead.{RangeRead}
use Rattle.reader.proofs.Stepping.{Next, next-range, reading-ends}
use Rattle.text.specs.Text.{line, room}
use Rattle.text.proofs.Putting.{length_part}
use Rattle.text.proofs.Showing.{Shows, bytes_of, shows_start, line-fits, shows_step, shows_end}
use Rattle.text.proofs.show.put_ranges.Goals as goal

-- where a range is read, the loop's test has passed
module _ (m out₀ out : List ℕ) (c : RangeCursor) (n : ℕ) (r : RangeRead) (o : Result RangeRead Refusal) (is : o ≡ Ok r)
    (bytes : Bytes m) (s : Shows m out₀ out c n) (test : c.at < length m) (e : ReadAt m c o) where
  next : Next m c r
  next = (next-range m c o bytes test s.whole e).1 r is

  fits : length m ≤ 65536 → room ≤ length out₀ → (n + length (line (range_of r.range m)) ≤ room) × (room ≤ length out)
  fits few wide = line-fits m out₀ out c n bytes few wide s r next

pub loop-cursor-init : goal.loop-cursor-init
unfolding starts
loop-cursor-init c = shows_start c.args.m.now c.args.out.now (bytes_of c.args.m.now c.type_inv.m) c.requires.2

pub unwrap-requires : goal.unwrap-requires
unwrap-requires c =
    let l = c.loop-cursor in
    (next-range c.args.m.now l.cursor _ (bytes_of c.args.m.now c.type_inv.m) (omega arith) l.invariant.whole c.range.ensures).0

pub slice_bounds-put_range-count : goal.slice_bounds-put_range-count
slice_bounds-put_range-count c =
    let l = c.loop-cursor in
    omega (arith, fits c.args.m.now c.args.out.now l.out l.cursor l.n _ _ c.unwrap.ensures (bytes_of c.args.m.now c.type_inv.m) l.invariant (omega arith) c.range.ensures c.requires.0 c.requires.1)

pub slice_bounds-put_range-start : goal.slice_bounds-put_range-start
slice_bounds-put_range-start c =
    let l = c.loop-cursor in
    omega (arith, fits c.args.m.now c.args.out.now l.out l.cursor l.n _ _ c.unwrap.ensures (bytes_of c.args.m.now c.type_inv.m) l.invariant (omega arith) c.range.ensures c.requires.0 c.requires.1)

pub put_range-n-requires : goal.put_range-n-requires
put_range-n-requires c =
    let l = c.loop-cursor in
    omega (
      arith,
      fits c.args.m.now c.args.out.now l.out l.cursor l.n _ _ c.unwrap.ensures (bytes_of c.args.m.now c.type_inv.m) l.invariant (omega arith) c.range.ensures c.requires.0 c.requires.1,
      length_part l.out l.n,
    )

pub overflow_add-n : goal.overflow_add-n
overflow_add-n c =
    let l = c.loop-cursor in
    omega (
      arith,
      fits c.args.m.now c.args.out.now l.out l.cursor l.n _ _ c.unwrap.ensures (bytes_of c.args.m.now c.type_inv.m) l.invariant (omega arith) c.range.ensures c.requires.0 c.requires.1,
      c.put_range-n.ensures.value,
    )

pub loop-cursor-smaller : goal.loop-cursor-smaller
loop-cursor-smaller c =
    let l = c.loop-cursor in
    omega (arith, (next c.args.m.now c.args.out.now l.out l.cursor l.n _ _ c.unwrap.ensures (bytes_of c.args.m.now c.type_inv.m) l.invariant (omega arith) c.range.ensures).moved)

pub loop-cursor-preserved : goal.loop-cursor-preserved
loop-cursor-preserved c =
    let l = c.loop-cursor in
    let p = c.put_range-n in
    shows_step c.args.m.now c.args.out.now l.out l.cursor l.n (bytes_of c.args.m.now c.type_inv.m) c.requires.0 c.requires.1 l.invariant c.unwrap.result
    (next c.args.m.now c.args.out.now l.out l.cursor l.n _ _ c.unwrap.ensures (bytes_of c.args.m.now c.type_inv.m) l.invariant (omega arith) c.range.ensures)
    p.new.out p.result p.ensures.value p.ensures.out_after

pub returns : goal.returns
returns c =
    let l = c.loop-cursor in
    let z = shows_end c.args.m.now c.args.out.now l.out l.cursor l.n l.invariant (reading-ends c.args.m.now l.cursor (omega arith)) in
    record { value = z.0; out_after = z.1 }
