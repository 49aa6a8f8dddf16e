-- `tablelabel::check_and_label` meets its contract. The invariant: the items before i pass check 2, so the table fails it if a later item does, and the label is that
-- of their ids.
use native.Mathlib.Omega.{arith}
use borrow.Author.Rules.{rules}
use Prim.Native.Nat.{◌+◌, ◌-◌}
use mathlib.Core.Path.{◌≡◌, ap, ◌∙◌}
use Rattle.label.specs.Label.{label_of}
use Rattle.table.specs.Answer.{answer}
use Rattle.table.specs.Code.{lent}
use Rattle.table.specs.Table.{Table}
use Rattle.table.proofs.Items.{right_size}
use Rattle.table.proofs.Checks.{order-refused, checked, next_fails, next-holds, last-item}
use Rattle.ends.specs.Opener.{table_label}
use Rattle.tablelabel.proofs.Summing.{label_turn, all_summed}
use Rattle.tablelabel.proofs.check_and_label.Goals as goal

pub next_rises-requires : goal.next_rises-requires
next_rises-requires c = (omega arith, (right_size (lent c.args.times.now c.args.ids.now) c.in_ok-check_start.ensures.0).0)

pub returns-then-not-next_rises : goal.returns-then-not-next_rises
returns-then-not-next_rises c =
    let table : Table = lent c.args.times.now c.args.ids.now in
    order-refused table (answer (table_label table)) c.in_ok-check_start.ensures.0
    (c.loop-i.invariant.rises ∙ next_fails table (c.loop-i.i - 1) (omega arith) (rw (← c.next_rises.ensures) c.if-not-next_rises.true))

pub overflow_mul-i : goal.overflow_mul-i
overflow_mul-i c = let size = right_size (lent c.args.times.now c.args.ids.now) c.in_ok-check_start.ensures.0 in omega arith

pub slice_bounds-of_id-count : goal.slice_bounds-of_id-count
slice_bounds-of_id-count c = let size = right_size (lent c.args.times.now c.args.ids.now) c.in_ok-check_start.ensures.0 in omega arith

pub slice_bounds-of_id-start : goal.slice_bounds-of_id-start
slice_bounds-of_id-start c = let size = right_size (lent c.args.times.now c.args.ids.now) c.in_ok-check_start.ensures.0 in search rules

pub loop-i-preserved : goal.loop-i-preserved
loop-i-preserved c =
    let table : Table = lent c.args.times.now c.args.ids.now in
    let size = right_size table c.in_ok-check_start.ensures.0 in
    let next : c.loop-i.i + 1 - 1 ≡ c.loop-i.i - 1 + 1 = omega arith in
    record {
      rises = rw next (c.loop-i.invariant.rises ∙ next-holds table (c.loop-i.i - 1) (omega arith) (rw (← c.next_rises.ensures) c.if-not-next_rises.false));
      summed = label_turn c.loop-i.i table.ids _ _ _ (omega arith) (omega arith) c.loop-i.invariant.summed c.of_id.ensures c.add-label.ensures;
    }

pub returns : goal.returns
returns c =
    let table : Table = lent c.args.times.now c.args.ids.now in
    let size = right_size table c.in_ok-check_start.ensures.0 in
    ap answer (c.loop-i.invariant.summed ∙ ap label_of (all_summed table c.loop-i.i size.0 (omega arith)))
    ∙ checked table (answer (table_label table)) c.in_ok-check_start.ensures.0 (c.loop-i.invariant.rises ∙ last-item table (c.loop-i.i - 1) (omega arith))
