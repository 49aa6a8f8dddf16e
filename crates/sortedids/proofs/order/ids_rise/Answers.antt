-- `sortedids::order::ids_rise` meets its contract. The invariant: the ids from the one before i on decide.
use mathlib.Core.Path.{sym, ◌∙◌}
use native.Mathlib.Omega.{arith}
use Rattle.sortedids.proofs.Rising.{rise_fails, rise_holds, rise_ends}
use Rattle.sortedids.proofs.order.ids_rise.Goals as goal

pub returns-then-not-id_below : goal.returns-then-not-id_below
returns-then-not-id_below c =
    let l = c.loop-i in
    sym (l.invariant ∙ rise_fails _ _ l.i (omega arith) (omega arith) (sym c.id_below.ensures ∙ c.if-not-id_below.true))

pub loop-i-preserved : goal.loop-i-preserved
loop-i-preserved c =
    let l = c.loop-i in
    l.invariant ∙ rise_holds _ _ l.i (omega arith) (omega arith) (sym c.id_below.ensures ∙ c.if-not-id_below.false)

pub returns : goal.returns
returns c =
    let l = c.loop-i in
    sym (l.invariant ∙ rise_ends _ _ l.i (omega arith))
