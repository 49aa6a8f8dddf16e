-- `room::too_many` meets its contract.
use Prim.Native.Nat.{◌/◌, ◌-◌, ◌*◌, ◌≤◌}
use mathlib.Core.Path.{◌≡◌, refl, sym, ◌∙◌}
use mathlib.Core.Bool.{Bool, true, false, not}
use native.Mathlib.Omega.{arith}
use lib.ListN.{length}
use Rattle.message.specs.Code.{ids_in}
use Rattle.message.proofs.Forms.{ids-count}
use Rattle.table.specs.Code.{lent}
use Rattle.walk.specs.Walking.{starts}
use Rattle.walk.specs.Adding.{added_from}
use Rattle.room.proofs.Unowned.{room-enough}
use Rattle.room.proofs.too_many.Goals as goal
use Rattle.room.proofs.too_many.Goals.{then-not-few_listed, else-not-few_listed}

was : (b : Bool) → not b ≡ false → b ≡ true
was true e = refl
was false e = sym e

pub returns-else-not-few_unowned : goal.returns-else-not-few_unowned
returns-else-not-few_unowned c =
    let a = c.args in
    let have = length a.needed.now / 32 in
    let h : a.size * 32 ≤ length a.needed.now = c.requires.2 in
    let few : length (added_from (lent a.times.now a.own.now) a.m.now starts) ≤ have - a.size = elim c.if-not-few_listed.branch [
      | then-not-few_listed w ↦ w.few_unowned.ensures (was w.few_unowned.result (sym w.value-is ∙ c.if-not-few_unowned.false))
      | else-not-few_listed w ↦ c.few_listed.ensures w.if-not-few_listed.false
    ] in
    c.if-not-few_unowned.false ∙ sym (room-enough (lent a.times.now a.own.now) a.m.now (ids_in a.size a.needed.now) a.size have (ids-count a.size a.needed.now) (omega arith) few)
