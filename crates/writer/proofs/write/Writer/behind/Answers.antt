-- `writer::write::Writer::behind` meets its contract.
use mathlib.Core.Path.{sym, ◌∙◌}
use Rattle.writer.proofs.Steps.{moved-skip, moved_more}
use Rattle.writer.proofs.write.Writer.behind.Goals as goal
use Rattle.writer.proofs.write.Writer.behind.Goals.{then-skip, else-skip}

pub returns : goal.returns
returns c =
    λ source e.
    let a = c.args in
    elim c.if-skip.branch [
      | then-skip w ↦ rw (w.if-skip.true, w.result-is) (moved-skip a.self a.range source a.n (sym c.is_skip-skip.ensures ∙ w.if-skip.true) e)
      | else-skip w ↦ rw (w.if-skip.false, w.result-is) (moved_more a.self a.range source a.n w.time.result (sym c.is_skip-skip.ensures ∙ w.if-skip.false) e w.time.ensures)
    ]
