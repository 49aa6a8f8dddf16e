-- `session::check::contents_fit` meets its contract.
use mathlib.Core.Path.{◌≡◌, sym, ◌∙◌}
use mathlib.Core.Bool.{false}
use lib.Dec.{ltb}
use borrow.Author.Tests.{lt-leb}
use Rattle.ends.specs.Lists.{some}
use Rattle.ends.specs.Opener.{ones}
use Rattle.session.proofs.Contents.{mark_wrong, count_wrong, size_wrong, order_decides}
use Rattle.session.proofs.check.contents_fit.Goals as goal

pub returns-then-some_above_one : goal.returns-then-some_above_one
returns-then-some_above_one c =
    λ out.
    let a = c.args in
    mark_wrong a.session a.marks.now a.needed.now out (sym c.if-some_above_one.true ∙ c.some_above_one.ensures)

pub returns-then-session-count_ones : goal.returns-then-session-count_ones
returns-then-session-count_ones c =
    λ out.
    let low : false ≡ some (ltb 1) c.args.marks.now = sym c.if-some_above_one.false ∙ c.some_above_one.ensures in
    let a = c.args in
    count_wrong a.session a.marks.now a.needed.now out (low) (λ e. c.if-session-count_ones.true (e ∙ sym c.count_ones.ensures))

pub returns-else-session-needed : goal.returns-else-session-needed
returns-else-session-needed c =
    λ out.
    let low : false ≡ some (ltb 1) c.args.marks.now = sym c.if-some_above_one.false ∙ c.some_above_one.ensures in
    let counted : c.args.session.marked ≡ ones c.args.marks.now = c.if-session-count_ones.false ∙ c.count_ones.ensures in
    let a = c.args in
    lt-leb _ _ c.if-session-needed.false ∙ size_wrong a.session a.marks.now a.needed.now out (low) (counted) c.if-session-needed.false

pub returns-then-session-needed : goal.returns-then-session-needed
returns-then-session-needed c =
    λ out.
    let low : false ≡ some (ltb 1) c.args.marks.now = sym c.if-some_above_one.false ∙ c.some_above_one.ensures in
    let counted : c.args.session.marked ≡ ones c.args.marks.now = c.if-session-count_ones.false ∙ c.count_ones.ensures in
    let a = c.args in
    order_decides a.session a.marks.now a.needed.now out (low) (counted) c.if-session-needed.true _ c.ids_rise.ensures
