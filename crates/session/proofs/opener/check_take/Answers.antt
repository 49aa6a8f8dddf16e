-- `session::opener::check_take` meets its contract.
use mathlib.Core.Path.{◌≡◌, refl, sym, ◌∙◌}
use mathlib.Core.Bool.{Bool, ◌||◌}
use mathlib.Core.List.{List}
use Prim.Native.Nat.{ℕ}
use Rattle.label.specs.Code.{label_in}
use Rattle.table.specs.Answer.{answer}
use Rattle.table.specs.Code.{lent}
use Rattle.table.specs.Table.{Table}
use Rattle.cutting.specs.Code.{cut_of}
use Rattle.shorten.specs.Code.{limit_of}
use Rattle.ends.specs.Calls.{reading}
use Rattle.ends.specs.Opener.{wrong_buffers, wrong_contents, table_label, other_label}
use Rattle.session.specs.Code.{session_in, lent_to}
use Rattle.std.proofs.lemmas.Result.{err_from_is_err_and}
use Rattle.session.proofs.Chains.{Checked, end_refused, end-passed, end_then, passed_on, not-both}
use Rattle.session.proofs.Replies.{session-refused}
use Rattle.session.proofs.opener.check_take.Goals as goal

pub returns-in_err-label : goal.returns-in_err-label
returns-in_err-label c =
    let p = err_from_is_err_and c.from_residual.result c.from_residual.ensures.1 in
    λ out.
    let table : Table = lent c.args.times.now c.args.ids.now in
    rw (p.1, p.2) (end_refused (limit_of c.args.limit) (table) (cut_of c.args.cut) _ _ _ (λ e. not-both (sym e)) c.in_err-label.ensures)

pub returns-in_err-check_session : goal.returns-in_err-check_session
returns-in_err-check_session c =
    let p = err_from_is_err_and c.from_residual-in_err-check_session.result c.from_residual-in_err-check_session.ensures.1 in
    λ out.
    let table : Table = lent c.args.times.now c.args.ids.now in
    let wrong : List ℕ → Bool = λ out. let l = lent_to c.args.session c.args.marks.now c.args.needed.now out in
    wrong_buffers (table) l || wrong_contents l in
    let other : Bool = other_label (table) (session_in c.args.session) in
    let passed : Checked (limit_of c.args.limit) (table) (cut_of c.args.cut) = (end-passed (limit_of c.args.limit) (table) (cut_of c.args.cut) _ c.in_ok-label.ensures).0 in
    let told = (end-passed (limit_of c.args.limit) table (cut_of c.args.cut) _ c.in_ok-label.ensures).1 in
    let labelled : label_in c.in_ok-label.label ≡ table_label table = cc in
    let r = c.in_err-check_session.ensures c.args.times.now c.args.ids.now out refl labelled in
    rw (p.1, p.2)
    (session-refused (wrong out) (other) c.args.session.done _ _ (reading c.args.reply.now (λ rs. answer (tt {0}))) (λ e. not-both (sym e)) r
    ∙ sym (end_then (limit_of c.args.limit) (table) (cut_of c.args.cut) (passed) _))

pub returns : goal.returns
returns c =
    λ out.
    let table : Table = lent c.args.times.now c.args.ids.now in
    let wrong : List ℕ → Bool = λ out. let l = lent_to c.args.session c.args.marks.now c.args.needed.now out in
    wrong_buffers (table) l || wrong_contents l in
    let other : Bool = other_label (table) (session_in c.args.session) in
    let passed : Checked (limit_of c.args.limit) (table) (cut_of c.args.cut) = (end-passed (limit_of c.args.limit) (table) (cut_of c.args.cut) _ c.in_ok-label.ensures).0 in
    let told = (end-passed (limit_of c.args.limit) table (cut_of c.args.cut) _ c.in_ok-label.ensures).1 in
    let labelled : label_in c.in_ok-label.label ≡ table_label table = cc in
    let ok = passed in
    let r = c.in_ok-check_session.ensures c.args.times.now c.args.ids.now out refl labelled in
    let four = passed_on 4 (wrong out) _ r in
    let eighteen = passed_on 18 (other) _ four.1 in
    let five = passed_on 5 c.args.session.done _ eighteen.1 in
    rw (ok.ok.0, ok.ok.1, ok.limits, ok.least, four.0, eighteen.0, five.0) c.check_read.ensures
