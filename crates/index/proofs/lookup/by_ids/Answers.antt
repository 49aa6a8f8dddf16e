-- `index::lookup::by_ids` meets its contract.
use Prim.Native.Nat.{◌<◌}
use mathlib.Core.Path.{◌≡◌, ◌∙◌}
use mathlib.Core.Bool.{cond}
use native.Mathlib.Omega.{arith}
use lib.ListN.{length, get_or, get_or-append}
use Rattle.message.proofs.Order.{Small}
use Rattle.index.specs.Lookup.{listed}
use Rattle.index.proofs.Finding.{ids_whole}
use Rattle.index.proofs.Meeting.{met-ends}
use Rattle.index.proofs.lookup.by_ids.Goals as goal

pub returns : goal.returns
returns c = λ i h.
    let a = c.args in
    let index = c.new-index.result in
    let found = c.spread.new.found in
    let small : Small a.list.now = λ k. omega (arith, c.type_inv.list k) in
    let long : i < length found = omega (arith, c.spread.auto.found, c.meet.auto.found, c.fill.ensures.len, c.split_at_mut-found.ensures.front_len) in
    let inside : i < index.n = rw c.new-index.ensures.1 h in
    let ends : get_or found i 0 ≡ cond (listed a.list.now a.count index.ids.now i) 1 0 = met-ends a.list.now a.count found index.sound (ids_whole a.count a.list.now small c.requires.0) (c.spread.ensures a.list.now a.count c.meet.ensures) i inside in
    get_or-append found _ 0 i long ∙ (rw c.new-index.ensures.0 at ends)
