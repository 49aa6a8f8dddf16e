-- `judging::merge::rest_answered` meets its contract.
use mathlib.Core.Path.{refl, sym, ◌∙◌}
use native.Mathlib.Omega.{arith}
use borrow.Author.Tests.{ltb-false}
use Rattle.message.specs.Bound.{infinity, key}
use Rattle.message.proofs.Order.{small_bytes}
use Rattle.table.specs.Code.{lent}
use Rattle.table.specs.Lists.{every}
use Rattle.judging.specs.Private.{bound_at}
use Rattle.judging.proofs.Merging.{met-high}
use Rattle.judging.proofs.merge.rest_answered.Goals as goal

pub returns-then-not-is_below : goal.returns-then-not-is_below
unfolding every
returns-then-not-is_below c =
    let a = c.args in
    let bytes = small_bytes a.reply.now (λ k. omega (arith, c.type_inv.reply k)) in
    let high = ltb-false (key (bound_at a.lower)) (key infinity) (sym c.is_below.ensures ∙ c.if-not-is_below.true) in
    rw (met-high (lent a.times.now a.own.now) a.reply.now bytes a.walk c.requires.1 (bound_at a.lower) infinity high) (rw c.if-not-is_below.true refl)
