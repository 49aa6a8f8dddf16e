-- `session::check::check_session` meets its contract.
use mathlib.Core.Path.{◌≡◌}
use mathlib.Core.Bool.{Bool, ◌||◌, not}
use mathlib.Core.List.{List}
use Prim.Native.Nat.{ℕ}
use Rattle.label.specs.Code.{label_in}
use Rattle.table.specs.Code.{lent}
use Rattle.ends.specs.Opener.{wrong_buffers, wrong_contents, table_label, other_label}
use Rattle.session.specs.Code.{session_in, lent_to}
use Rattle.session.proofs.Contents.{other-told, state_refused, label-refused, done_refused, session-passes}
use mathlib.Core.Path.{ap}
use Rattle.session.proofs.check.check_session.Goals as goal

pub returns-then-not-state_fits : goal.returns-then-not-state_fits
returns-then-not-state_fits c =
    λ times ids out n e.
    let wrong : List ℕ → List ℕ → List ℕ → Bool = λ times ids out. let l = lent_to c.args.session c.args.marks.now c.args.needed.now out in
    wrong_buffers (lent times ids) l || wrong_contents l in
    let other : List ℕ → List ℕ → Bool = λ times ids. other_label (lent times ids) (session_in c.args.session) in
    state_refused (wrong times ids out) (other times ids) c.args.session.done _ (c.state_fits.ensures times ids out n) (ap not c.if-not-state_fits.true)

pub returns-then-not-same : goal.returns-then-not-same
returns-then-not-same c =
    λ times ids out n e.
    let wrong : List ℕ → List ℕ → List ℕ → Bool = λ times ids out. let l = lent_to c.args.session c.args.marks.now c.args.needed.now out in
    wrong_buffers (lent times ids) l || wrong_contents l in
    let other : List ℕ → List ℕ → Bool = λ times ids. other_label (lent times ids) (session_in c.args.session) in
    let compared : (times ids : List ℕ) → label_in c.args.label ≡ table_label (lent times ids) → other times ids ≡ not c.same.result = λ times ids e. other-told (lent times ids) (session_in c.args.session) e c.same.ensures in
    label-refused (wrong times ids out) (other times ids) c.args.session.done _ (c.state_fits.ensures times ids out n) (ap not c.if-not-state_fits.false)
    c.same.result (compared times ids e) (ap not c.if-not-same.true)

pub returns-then-session : goal.returns-then-session
returns-then-session c =
    λ times ids out n e.
    let wrong : List ℕ → List ℕ → List ℕ → Bool = λ times ids out. let l = lent_to c.args.session c.args.marks.now c.args.needed.now out in
    wrong_buffers (lent times ids) l || wrong_contents l in
    let other : List ℕ → List ℕ → Bool = λ times ids. other_label (lent times ids) (session_in c.args.session) in
    let compared : (times ids : List ℕ) → label_in c.args.label ≡ table_label (lent times ids) → other times ids ≡ not c.same.result = λ times ids e. other-told (lent times ids) (session_in c.args.session) e c.same.ensures in
    done_refused (wrong times ids out) (other times ids) c.args.session.done _ (c.state_fits.ensures times ids out n) (ap not c.if-not-state_fits.false)
    c.same.result (compared times ids e) (ap not c.if-not-same.false) c.if-session.true

pub returns : goal.returns
returns c =
    λ times ids out n e.
    let wrong : List ℕ → List ℕ → List ℕ → Bool = λ times ids out. let l = lent_to c.args.session c.args.marks.now c.args.needed.now out in
    wrong_buffers (lent times ids) l || wrong_contents l in
    let other : List ℕ → List ℕ → Bool = λ times ids. other_label (lent times ids) (session_in c.args.session) in
    let compared : (times ids : List ℕ) → label_in c.args.label ≡ table_label (lent times ids) → other times ids ≡ not c.same.result = λ times ids e. other-told (lent times ids) (session_in c.args.session) e c.same.ensures in
    session-passes (wrong times ids out) (other times ids) c.args.session.done _ (c.state_fits.ensures times ids out n) (ap not c.if-not-state_fits.false)
    c.same.result (compared times ids e) (ap not c.if-not-same.false) c.if-session.false
