-- `shorten::close` meets its contract.
use mathlib.Core.Path.{◌≡◌, sym, ◌∙◌}
use native.Mathlib.Omega.{arith}
use Rattle.message.specs.WellFormed.{Bytes}
use Rattle.message.proofs.Order.{small_bytes}
use Rattle.table.specs.Code.{lent}
use Rattle.table.proofs.Items.{right_size}
use Rattle.shorten.proofs.Finishing.{closes_skip, closes_before, closes_count, kept-few}
use Rattle.shorten.proofs.close.Goals as goal

pub returns-then-not-last_fits : goal.returns-then-not-last_fits
returns-then-not-last_fits c =
    λ whole s e.
    let a = c.args in
    let by : Bytes a.own.now = small_bytes a.own.now (λ k. omega (arith, c.type_inv.own k)) in
    rw c.without_skip.ensures
    (closes_skip a.size (lent a.times.now a.own.now) by c.requires.0 whole a.stop s e c.requires.1 (sym c.last_fits.ensures ∙ c.if-not-last_fits.true))

pub overflow_add-from : goal.overflow_add-from
overflow_add-from c =
    let r = right_size _ c.requires.0.0 in
    let i = c.requires.1.span in
    let few = kept-few (lent c.args.times.now c.args.own.now) c.args.size c.args.stop in
    let k = c.kept_ids-count.ensures in
    omega arith

pub returns-then-count-gt0 : goal.returns-then-count-gt0
returns-then-count-gt0 c =
    λ whole s e.
    let a = c.args in
    let by : Bytes a.own.now = small_bytes a.own.now (λ k. omega (arith, c.type_inv.own k)) in
    closes_count a.size (lent a.times.now a.own.now) by c.requires.0 whole a.stop s e c.requires.1 (sym c.last_fits.ensures ∙ c.if-not-last_fits.false) c.kept_ids-count.result c.kept_ids-count.ensures c.if-count-gt0.true

pub returns-else-count-gt0 : goal.returns-else-count-gt0
returns-else-count-gt0 c =
    λ whole s e.
    let a = c.args in
    let by : Bytes a.own.now = small_bytes a.own.now (λ k. omega (arith, c.type_inv.own k)) in
    let none : c.kept_ids-count.result ≡ 0 = omega (arith, c.if-count-gt0.false) in
    rw none
    (closes_before a.size (lent a.times.now a.own.now) by c.requires.0 whole a.stop s e c.requires.1 (sym c.last_fits.ensures ∙ c.if-not-last_fits.false) c.first_at_or_above-from.result c.first_at_or_above-from.ensures.0 (sym c.kept_ids-count.ensures ∙ none))
