use Prim.Native.Nat.{◌≤◌}
use mathlib.Core.List.{foldr}
use lib.ListN.{drop}
use Rattle.message.specs.Code.{ids_in}
use Rattle.message.proofs.Order.{Small}
use Rattle.ends.specs.Opener.{insert}
use Rattle.needed.specs.Batches.{meant}
use Rattle.needed.proofs.Batching.{unowned_in, others_left, Adding}
use Rattle.needed.proofs.batch.add_list.Given as goal

abbrev pub invariant-loop-left : goal.invariant-loop-left
invariant-loop-left l = record {
  few : l.left ≤ l.count;
  bytes : Small l.needed;
  adding : Adding l.m l.initial.needed l.initial.batch (foldr insert (meant l.m l.initial.needed l.initial.pos l.initial.batch) (unowned_in l.own l.start l.owned (ids_in l.count (drop l.at l.m)))) (others_left l.falls l.own l.start l.owned l.m l.count l.at l.left) l.needed l.words l.pos l.batch;
}

abbrev pub decreases-loop-left : goal.decreases-loop-left
decreases-loop-left l = l.left
