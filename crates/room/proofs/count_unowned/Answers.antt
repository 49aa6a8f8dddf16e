-- `room::count_unowned` meets its contract. The invariant: the ids before the i-th are counted.
use Prim.Native.Nat.{◌-◌, ◌*◌, ◌≤◌}
use mathlib.Core.Path.{◌∙◌}
use native.Mathlib.Omega.{arith}
use lib.Dec.{eqb}
use lib.ListN.{length, take}
use lib.Seq.{length-take-le}
use Rattle.std.proofs.lemmas.List.Sums.{count_by-le-length}
use Rattle.room.proofs.Unowned.{not_found_count, summing_block, summing_ends}
use Rattle.room.proofs.count_unowned.Goals as goal

pub loop-i-preserved : goal.loop-i-preserved
loop-i-preserved c =
    let a = c.args in
    let l = c.loop-i in
    let n = c.block-n in
    let few : n.result ≤ a.count - l.i = n.ensures.0 in
    let found = c.contains_each.new.found in
    let more = c.count_not_found-sum in
    let noted : n.result ≤ length found = let h = n.ensures.1 in omega (arith, c.contains_each.auto.found) in
    let fewer : more.result ≤ n.result = omega (arith, more.ensures, count_by-le-length (λ x. eqb x 0) (take n.result found), length-take-le n.result found noted) in
    record {
      inside = omega arith;
      few = omega arith;
      summing = summing_block a.own.now (a.span.lo * 32) (a.span.hi - a.span.lo) a.m.now a.count a.at found l.sum l.i n.result more.result (omega arith)
          c.contains_each.ensures (λ d. more.ensures ∙ not_found_count n.result found d noted) l.invariant.summing;
    }

pub returns : goal.returns
returns c =
    let a = c.args in
    let l = c.loop-i in
    λ _. summing_ends a.own.now (a.span.lo * 32) (a.span.hi - a.span.lo) a.m.now a.count a.at l.sum l.i (omega arith) l.invariant.summing
