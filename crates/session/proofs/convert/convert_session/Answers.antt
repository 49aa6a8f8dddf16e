-- `session::convert::convert_session` meets its contract.
use mathlib.Core.Path.{◌≡◌, refl}
use mathlib.Core.List.{[]}
use Rattle.label.specs.Code.{label_in}
use Rattle.table.specs.Code.{lent}
use Rattle.table.specs.Table.{Table}
use Rattle.table.specs.Private.{Passed}
use Rattle.std.proofs.lemmas.Result.{err_from_is_err_and}
use Rattle.tablelabel.proofs.Verdicts.{labelled-passed}
use Rattle.ends.specs.Opener as E
use Rattle.ends.specs.Opener.{table_label}
use Rattle.ends.specs.Converting.{labelled}
use Rattle.session.specs.Code.{unlabelled_in}
use Rattle.session.proofs.Converting.{convert_refused, convert_wrong, convert_done}
use mathlib.Core.Path.{ap}
use mathlib.Core.Bool.{not}
use Rattle.session.proofs.convert.convert_session.Goals as goal

pub returns-then-not-state_fits : goal.returns-then-not-state_fits
returns-then-not-state_fits c =
    let table : Table = lent c.args.times.now c.args.ids.now in
    let checked : Passed (table) × (label_in c.in_ok-label.label ≡ table_label (table)) = labelled-passed (table) (table_label (table)) c.in_ok-label.ensures in
    let is : let a = c.args in
    ◌≡◌ {A = E.Session} (record { marked = a.session.marked; needed = a.session.needed; done = a.session.done; label = label_in c.in_ok-label.label }) (labelled (table) (unlabelled_in a.session)) = let a = c.args in
    λ i. record { marked = a.session.marked; needed = a.session.needed; done = a.session.done; label = (checked).1 i } in
    let a = c.args in
    convert_wrong (table) (unlabelled_in a.session) a.marks.now a.needed.now (checked).0 _ (is)
    _ (c.state_fits.ensures a.times.now a.ids.now [] refl) (ap not c.if-not-state_fits.true)

pub returns-in_err-label : goal.returns-in_err-label
returns-in_err-label c =
    let table : Table = lent c.args.times.now c.args.ids.now in
    let a = c.args in
    let p = err_from_is_err_and c.from_residual.result c.from_residual.ensures.1 in
    rw (p.1, p.2) (convert_refused (table) (unlabelled_in a.session) a.marks.now a.needed.now _ c.in_err-label.ensures)

pub returns : goal.returns
returns c =
    let table : Table = lent c.args.times.now c.args.ids.now in
    let checked : Passed (table) × (label_in c.in_ok-label.label ≡ table_label (table)) = labelled-passed (table) (table_label (table)) c.in_ok-label.ensures in
    let is : let a = c.args in
    ◌≡◌ {A = E.Session} (record { marked = a.session.marked; needed = a.session.needed; done = a.session.done; label = label_in c.in_ok-label.label }) (labelled (table) (unlabelled_in a.session)) = let a = c.args in
    λ i. record { marked = a.session.marked; needed = a.session.needed; done = a.session.done; label = (checked).1 i } in
    let a = c.args in
    convert_done (table) (unlabelled_in a.session) a.marks.now a.needed.now (checked).0 _ (is)
    _ (c.state_fits.ensures a.times.now a.ids.now [] refl) (ap not c.if-not-state_fits.false)
