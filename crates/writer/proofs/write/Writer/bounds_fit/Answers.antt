-- `writer::write::Writer::bounds_fit` meets its contract.
use mathlib.Core.Path.{◌≡◌, sym, ◌∙◌}
use mathlib.Core.Bool.{true}
use Rattle.writer.specs.Writing.{lawful}
use Rattle.writer.proofs.Steps.{order_is}
use Rattle.writer.proofs.write.Writer.bounds_fit.Goals as goal
use Rattle.writer.proofs.write.Writer.bounds_fit.Goals.{then-is_lawful, else-is_lawful}

pub returns-then-is_lawful-2 : goal.returns-then-is_lawful-2
returns-then-is_lawful-2 c =
    let a = c.args in
    elim c.if-is_lawful.branch [
      | then-is_lawful w ↦
          let range-lawful : lawful a.range.bound ≡ true = sym w.is_lawful-then-is_lawful.ensures ∙ sym w.value-is ∙ c.if-is_lawful-2.true in
          rw (sym w.if-is_lawful.ensures, range-lawful)
          (order_is a.self a.range _ _ _ _ _ c.time.ensures c.prefix.ensures c.time-then-is_lawful-2.ensures c.prefix-then-is_lawful-2.ensures c.below.ensures)
      | else-is_lawful w ↦ cc
    ]
