-- `table::check::check_start` meets its contract.
use native.Mathlib.Omega.{arith}
use Prim.Native.Nat.{◌-◌, ◌^◌}
use mathlib.Core.Path.{◌≡◌, sym, ◌∙◌}
use mathlib.Core.Bool.{false}
use Rattle.table.specs.Answer.{answer}
use Rattle.table.specs.Code.{lent}
use Rattle.table.specs.Table.{Table, wrong_size}
use Rattle.table.proofs.Checks.{too_many, other-size, size_holds, size-refused, order-refused, option_eq-now, stands_first, other_first, first_fails, first_holds}
use Rattle.table.proofs.check.check_start.Goals as goal
use Rattle.table.proofs.check.check_start.Goals.{then-times-gt1048576-via-then-times-gt1048576, then-times-gt1048576-via-else-times-gt1048576+then-ids-times}

pub returns-then-times-gt1048576 : goal.returns-then-times-gt1048576
returns-then-times-gt1048576 c =
    let table : Table = lent c.args.times.now c.args.ids.now in
    size-refused table (answer tt)
    (elim c.then-times-gt1048576.branch [
      | then-times-gt1048576-via-then-times-gt1048576 w ↦ too_many table (omega arith)
      | then-times-gt1048576-via-else-times-gt1048576+then-ids-times w ↦ other-size table w.if-ids-times.true
    ])

pub returns-then-eq : goal.returns-then-eq
returns-then-eq c =
    let table : Table = lent c.args.times.now c.args.ids.now in
    let sized : wrong_size table ≡ false = size_holds table (omega arith) (omega arith) in
    let first = stands_first table.times (2 ^ 64 - 1) (rw c.first.ensures.value at (sym (option_eq-now c.first.result _) ∙ sym c.eq.ensures ∙ c.if-eq.true)) in
    order-refused table (answer tt) sized (first_fails table first.0 first.1)

pub returns : goal.returns
returns c =
    let table : Table = lent c.args.times.now c.args.ids.now in
    let sized : wrong_size table ≡ false = size_holds table (omega arith) (omega arith) in
    let first = other_first table.times (2 ^ 64 - 1) (rw c.first.ensures.value at (sym (option_eq-now c.first.result _) ∙ sym c.eq.ensures ∙ c.if-eq.false)) in
    (sized, first_holds table (λ h. omega (arith, first h, c.type_inv.times 0)))
