-- `session::check::state_fits` meets its contract.
use Rattle.session.proofs.Contents.{buffers_decide, contents_decide}
use mathlib.Core.Path.{ap, ◌∙◌}
use mathlib.Core.Bool.{not}
use Rattle.session.proofs.check.state_fits.Goals as goal

pub returns-else-buffers_fit : goal.returns-else-buffers_fit
returns-else-buffers_fit c =
    λ times ids out e.
    let a = c.args in
    c.if-buffers_fit.false ∙ buffers_decide a.session a.marks.now a.needed.now out times ids a.n _ c.buffers_fit.ensures e (ap not c.if-buffers_fit.false)

pub returns-then-buffers_fit : goal.returns-then-buffers_fit
returns-then-buffers_fit c =
    λ times ids out e.
    let a = c.args in
    contents_decide a.session a.marks.now a.needed.now out times ids a.n _ c.buffers_fit.ensures e (ap not c.if-buffers_fit.true) (c.contents_fit.ensures out)
