-- `writer::write::Writer::begin` meets its contract.
use mathlib.Core.Path.{sym, ◌∙◌}
use mathlib.Core.List.{[], ◌∷◌}
use native.Mathlib.Omega.{arith}
use borrow.Author.Tests.{ltb-true, ltb-false}
use Rattle.writer.specs.Writing.{room}
use Rattle.writer.proofs.Laying.{first-laid, lay_short}
use Rattle.writer.proofs.write.Writer.begin.Goals as goal
use Rattle.writer.proofs.write.Writer.begin.Goals.{in-Some, in_default}

pub returns-clause-verdict_value : goal.returns-clause-verdict_value
unfolding room
returns-clause-verdict_value c = rw c.match-first_mut.auto.out at c.start.ensures.verdict_value

pub returns-clause-out_after : goal.returns-clause-out_after
returns-clause-out_after c =
    elim c.match-first_mut.branch [
      | in-Some w ↦ w.out-is ∙ first-laid _ _ (ltb-true _ _ (sym w.in-Some.ensures.item.0))
      | in_default w ↦ let none = ltb-false _ _ (sym w.in_default.ensures.item.0) in w.out-is ∙ (lay_short (0x61 ∷ []) _ (omega arith)).1
    ]
