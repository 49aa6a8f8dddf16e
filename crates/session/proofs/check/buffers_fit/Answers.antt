-- `session::check::buffers_fit` meets its contract.
use mathlib.Core.Path.{refl}
use borrow.Author.Tests.{eq-eqb, ne_eqb}
use Rattle.session.proofs.check.buffers_fit.Goals as goal

pub returns-then-marks-n : goal.returns-then-marks-n
returns-then-marks-n c = rw (eq-eqb _ _ c.if-marks-n.true) refl

pub returns-else-marks-n : goal.returns-else-marks-n
returns-else-marks-n c = rw (ne_eqb _ _ c.if-marks-n.false) refl
