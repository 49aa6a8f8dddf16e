-- `session::opener::open_session` meets its contract.
use mathlib.Core.Path.{◌≡◌, sym, ap, ◌∙◌}
use mathlib.Core.Bool.{false}
use lib.ListN.{replicate}
use Prim.Native.Nat.{ℕ}
use Rattle.label.specs.Code.{label_in}
use Rattle.table.specs.Code.{lent}
use Rattle.table.specs.Table.{Table}
use Rattle.cutting.specs.Code.{cut_of}
use Rattle.shorten.specs.Code.{limit_of}
use Rattle.ends.specs.Opener.{Lent, wrong_buffers, table_label}
use Rattle.std.proofs.lemmas.Result.{err_from_is_err_and}
use Rattle.session.specs.Code.{lent_first}
use Rattle.session.proofs.Chains.{Checked, end-passed}
use Rattle.session.proofs.Opening.{buffers_wrong, buffers_right, marks_each, open_refused, open_wrong, open_long, open_done}
use Rattle.session.proofs.opener.open_session.Goals as goal

pub returns-then-not-buffers_fit : goal.returns-then-not-buffers_fit
unfolding label_in
returns-then-not-buffers_fit c =
    let table : Table = lent c.args.times.now c.args.ids.now in
    let before : Lent = lent_first c.args.marks.now c.args.needed.now c.args.out.now in
    let passed : Checked (limit_of c.args.limit) (table) (cut_of c.args.cut) = (end-passed (limit_of c.args.limit) (table) (cut_of c.args.cut) _ c.in_ok-label.ensures).0 in
    (open_wrong (limit_of c.args.limit) (table) (cut_of c.args.cut) (before) (passed)
    (buffers_wrong (table) (before) (sym c.buffers_fit.ensures ∙ c.if-not-buffers_fit.true)))

pub send-requires : goal.send-requires
send-requires c =
    let table : Table = lent c.args.times.now c.args.ids.now in
    let passed : Checked (limit_of c.args.limit) (table) (cut_of c.args.cut) = (end-passed (limit_of c.args.limit) (table) (cut_of c.args.cut) _ c.in_ok-label.ensures).0 in
    let p = passed in
    (p.ok, p.limits, tt, p.least)

pub returns-in_err-label : goal.returns-in_err-label
unfolding label_in
returns-in_err-label c =
    let table : Table = lent c.args.times.now c.args.ids.now in
    let before : Lent = lent_first c.args.marks.now c.args.needed.now c.args.out.now in
    let p = err_from_is_err_and c.from_residual.result c.from_residual.ensures.1 in
    rw (p.1, p.2)
    (open_refused (limit_of c.args.limit) (table) (cut_of c.args.cut) (before) _ c.in_err-label.ensures)

pub returns-in_err-length : goal.returns-in_err-length
unfolding label_in
returns-in_err-length c =
    let table : Table = lent c.args.times.now c.args.ids.now in
    let before : Lent = lent_first c.args.marks.now c.args.needed.now c.args.out.now in
    let passed : Checked (limit_of c.args.limit) (table) (cut_of c.args.cut) = (end-passed (limit_of c.args.limit) (table) (cut_of c.args.cut) _ c.in_ok-label.ensures).0 in
    let fit : wrong_buffers (table) (before) ≡ false = buffers_right (table) (before) (sym c.buffers_fit.ensures ∙ c.if-not-buffers_fit.false) in
    let p = err_from_is_err_and c.from_residual-in_err-length.result c.from_residual-in_err-length.ensures.1 in
    rw (p.1, p.2)
    (open_long (limit_of c.args.limit) (table) (cut_of c.args.cut) (before) (passed) (fit) _ _
    c.in_err-length.ensures)

pub returns : goal.returns
returns c =
    let table : Table = lent c.args.times.now c.args.ids.now in
    let before : Lent = lent_first c.args.marks.now c.args.needed.now c.args.out.now in
    let passed : Checked (limit_of c.args.limit) (table) (cut_of c.args.cut) = (end-passed (limit_of c.args.limit) (table) (cut_of c.args.cut) _ c.in_ok-label.ensures).0 in
    let told = (end-passed (limit_of c.args.limit) table (cut_of c.args.cut) _ c.in_ok-label.ensures).1 in
    let labelled : label_in c.in_ok-label.label ≡ table_label table = cc in
    let fit : wrong_buffers (table) (before) ≡ false = buffers_right (table) (before) (sym c.buffers_fit.ensures ∙ c.if-not-buffers_fit.false) in
    let each = marks_each (table) (before) (sym c.buffers_fit.ensures ∙ c.if-not-buffers_fit.false) in
    open_done (limit_of c.args.limit) (table) (cut_of c.args.cut) (before) (passed) (fit) _ _ _
    c.in_ok-length.ensures (c.clear.ensures ∙ ap (λ (n : ℕ). replicate n 0) each) (labelled)
