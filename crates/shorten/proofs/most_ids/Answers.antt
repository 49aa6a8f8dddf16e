-- `shorten::most_ids` meets its contract. The invariant: no number of ids from k on fits.
use Prim.Native.Nat.{◌-◌}
use mathlib.Core.Path.{sym, ◌∙◌}
use native.Mathlib.Omega.{arith}
use Rattle.message.specs.WellFormed.{Bytes}
use Rattle.message.proofs.Order.{small_bytes}
use Rattle.table.specs.Code.{lent}
use Rattle.cutting.specs.Private.{own_in}
use Rattle.shorten.proofs.Fitting.{largest-here, largest-next, largest-none, fits_first, fits-first, most-start}
use Rattle.shorten.proofs.most_ids.Goals as goal

pub loop-k-init : goal.loop-k-init
loop-k-init c =
    let a = c.args in
    let by : Bytes a.own.now = small_bytes a.own.now (λ k. omega (arith, c.type_inv.own k)) in
    most-start (lent a.times.now a.own.now) by c.requires.0 a.writer a.size a.span c.requires.1 c.requires.2 c.requires.3 (c.min-k.result - 1) (omega arith) (omega arith) (λ l. omega arith)

pub returns-then-has_room : goal.returns-then-has_room
returns-then-has_room c =
    let a = c.args in
    let by : Bytes a.own.now = small_bytes a.own.now (λ k. omega (arith, c.type_inv.own k)) in
    let f = c.first_ids.ensures in
    let k = c.loop-k.k - 1 in
    let test = fits_first a.writer a.size (own_in (lent a.times.now a.own.now) a.span) in
    let tested = c.has_room.ensures ∙ fits-first (lent a.times.now a.own.now) by c.requires.0 a.writer a.size a.span c.requires.1 c.requires.2 c.requires.3 k (omega arith) (omega arith) c.first_ids.result f.0 f.1 f.2 in
    sym (c.loop-k.invariant ∙ largest-here test k (omega arith) (sym tested ∙ c.if-has_room.true))

pub loop-k-preserved : goal.loop-k-preserved
loop-k-preserved c =
    let a = c.args in
    let by : Bytes a.own.now = small_bytes a.own.now (λ k. omega (arith, c.type_inv.own k)) in
    let f = c.first_ids.ensures in
    let k = c.loop-k.k - 1 in
    let test = fits_first a.writer a.size (own_in (lent a.times.now a.own.now) a.span) in
    let tested = c.has_room.ensures ∙ fits-first (lent a.times.now a.own.now) by c.requires.0 a.writer a.size a.span c.requires.1 c.requires.2 c.requires.3 k (omega arith) (omega arith) c.first_ids.result f.0 f.1 f.2 in
    c.loop-k.invariant ∙ largest-next test k (omega arith) (sym tested ∙ c.if-has_room.false)

pub returns : goal.returns
returns c =
    let a = c.args in
    largest-none (fits_first a.writer a.size (own_in (lent a.times.now a.own.now) a.span)) (c.loop-k.k - 1) (omega arith) ∙ sym c.loop-k.invariant
