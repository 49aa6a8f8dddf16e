use mathlib.Core.List.{foldr}
use lib.ListN.{drop}
use Rattle.message.proofs.Order.{Small}
use Rattle.ends.specs.Opener.{insert}
use Rattle.needed.specs.Batches.{meant, not_found}
use Rattle.needed.proofs.Batching.{Adding, new_left}
use Rattle.needed.proofs.batch.add_new.Given as goal

abbrev pub invariant-loop-k : goal.invariant-loop-k
invariant-loop-k l = record {
  bytes : Small l.needed;
  adding : Adding l.m l.initial.needed l.initial.batch (foldr insert (meant l.m l.initial.needed l.initial.pos l.initial.batch) (not_found l.found l.n (drop l.at l.m))) (new_left l.falls l.found l.n l.m l.at l.k) l.needed l.words l.pos l.batch;
}
