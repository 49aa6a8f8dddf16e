-- `exchange::treat::equals_own` meets its contract.
use mathlib.Core.Path.{◌≡◌, refl, ap, ◌∙◌}
use Prim.Native.Nat.{◌+◌, ◌-◌}
use native.Mathlib.Omega.{arith}
use borrow.Author.Rules.{rules}
use Rattle.table.specs.Code.{lent}
use Rattle.table.specs.Table.{items}
use Rattle.table.proofs.Items.{right_size}
use Rattle.label.specs.Label.{fingerprint}
use Rattle.cutting.specs.Cutting.{fingerprint_of}
use Rattle.cutting.proofs.Parts.{run_of, run-print}
use Rattle.exchange.proofs.treat.equals_own.Goals as goal

pub overflow_mul-span : goal.overflow_mul-span
overflow_mul-span c = omega (arith, right_size _ c.requires.0.0)

pub overflow_mul-span-2 : goal.overflow_mul-span-2
overflow_mul-span-2 c = omega (arith, right_size _ c.requires.0.0)

pub slice_bounds-of_ids-end : goal.slice_bounds-of_ids-end
slice_bounds-of_ids-end c = let r = right_size _ c.requires.0.0 in search rules

pub returns : goal.returns
returns c =
    let a = c.args in
    let i = c.requires.1 in
    let print : c.fingerprint-print.result ≡ fingerprint_of (run_of (items (lent a.times.now a.own.now)) a.span.lo a.span.hi) =
    c.fingerprint-print.ensures ∙ ap fingerprint c.of_ids.ensures ∙ run-print (lent a.times.now a.own.now) c.requires.0 a.span.lo a.span.hi i.0 i.1 _ refl in
    let e : a.at + 16 - a.at ≡ 16 = omega arith in
    c.same_bytes.ensures ∙ rw (e, print) refl
