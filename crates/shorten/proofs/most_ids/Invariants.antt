use Prim.Native.Nat.{◌-◌}
use mathlib.Core.Path.{◌≡◌}
use Rattle.table.specs.Code.{lent}
use Rattle.cutting.specs.Private.{own_in}
use Rattle.limit.specs.Limit.{largest}
use Rattle.shorten.proofs.Fitting.{fits_first}
use Rattle.shorten.proofs.most_ids.Given as goal

abbrev pub invariant-loop-k : goal.invariant-loop-k
invariant-loop-k l =
    largest (fits_first l.writer l.size (own_in (lent l.times l.own) l.span)) (l.span.hi - l.span.lo - 1) ≡ largest (fits_first l.writer l.size (own_in (lent l.times l.own) l.span)) (l.k - 1)
