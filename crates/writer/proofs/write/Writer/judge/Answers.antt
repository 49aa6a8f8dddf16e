-- `writer::write::Writer::judge` meets its contract.
use mathlib.Core.Path.{refl, sym}
use native.Mathlib.Omega.{arith}
use Rattle.writer.proofs.Steps.{bad_bound, truncated, no_room, fits}
use Rattle.writer.proofs.write.Writer.judge.Goals as goal
use Rattle.writer.proofs.write.Writer.judge.Goals.{then-size-self-via-then-size-self, then-size-self-via-else-size-self+then-size-self-2}

pub returns-then-not-bounds_fit : goal.returns-then-not-bounds_fit
returns-then-not-bounds_fit c = bad_bound _ _ _ _ (sym c.if-not-bounds_fit.ensures)

pub returns-then-not-is_inside : goal.returns-then-not-is_inside
returns-then-not-is_inside c = truncated _ _ _ _ (sym c.if-not-bounds_fit.ensures) (sym c.if-not-is_inside.ensures)

pub returns-then-size-self : goal.returns-then-size-self
returns-then-size-self c =
    let bounds-good = sym c.if-not-bounds_fit.ensures in
    let stands-inside = sym c.if-not-is_inside.ensures in
    elim c.then-size-self.branch [
      | then-size-self-via-then-size-self w ↦ no_room _ _ _ _ _ refl bounds-good stands-inside (omega arith)
      | then-size-self-via-else-size-self+then-size-self-2 w ↦ no_room _ _ _ _ _ w.more_size.ensures bounds-good stands-inside (omega arith)
    ]

pub returns : goal.returns
returns c = fits _ _ _ _ _ c.more_size.ensures (sym c.if-not-bounds_fit.ensures) (sym c.if-not-is_inside.ensures) (omega arith)
