-- `removal::marking::mark_one` meets its contract.
use mathlib.Core.Path.{sym, ◌∙◌}
use native.Mathlib.Omega.{arith}
use lib.ListN.{take}
use Rattle.message.specs.Code.{ids_in}
use Rattle.removal.specs.Removing.{bits_in}
use Rattle.removal.proofs.Removing.{missing, found_inside, found-marked}
use Rattle.removal.proofs.marking.mark_one.Goals as goal

pub set_bit-requires : goal.set_bit-requires
set_bit-requires c =
    let h = c.args.hints.now in
    omega (arith, found_inside h.list.now h.count c.args.id.now c.place-place.result h.rises c.place-place.ensures.0 (sym c.known-found.ensures ∙ c.if-found.true))

pub returns-then-found-clause-by_index : goal.returns-then-found-clause-by_index
returns-then-found-clause-by_index c =
    let a = c.args in
    let h = a.hints.now in
    λ us e. rw c.set_bit.ensures
    (found-marked h.list.now h.count a.id.now c.place-place.result h.rises c.place-place.ensures.0 (sym c.known-found.ensures ∙ c.if-found.true) us (bits_in a.marks.now) e)

pub returns-else-found-clause-by_index : goal.returns-else-found-clause-by_index
returns-else-found-clause-by_index c =
    let h = c.args.hints.now in
    λ us e. e ∙ missing (take 32 c.args.id.now) us (ids_in h.count h.list.now) (sym c.known-found.ensures ∙ c.if-found.false)
