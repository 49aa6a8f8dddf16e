-- `labeltree::append::is_above_last` meets its contract.
use Rattle.std.proofs.Common.{List, ℕ, ◌≡◌, ◌-◌, ◌*◌, ◌^◌, ◌<◌, Some, None, slice_get, length, get_or, sym, ◌∙◌, arith, inl, inr}
use native.Mathlib.Nat.{eq-zero-or-pos}
use lib.ListN.{length-take, length-drop}
use borrow.Author.Tests.{lt-ltb, ne_eqb}
use Rattle.std.proofs.lemmas.Option.{slice_get-get_or, slice_get_past, get_or_from_slice_get}
use Rattle.message.proofs.Exact.{differ}
use Rattle.message.proofs.Order.{Small}
use Rattle.table.specs.Code.{lent}
use Rattle.table.specs.Table.{Table}
use Rattle.table.proofs.Items.{right_size}
use Rattle.tree.specs.Tree.{item}
use Rattle.tree.proofs.Rising.{time-refused, first-rises, later-rises, earlier_fails, same-time}
use Rattle.labeltree.proofs.append.is_above_last.Goals as goal

-- what `last` tells of a list
no_last : (l : List ℕ) → None ≡ slice_get l (length l - 1) → length l ≡ 0
no_last l e =
    elim (eq-zero-or-pos (length l)) [
      | inl z ↦ z
      | inr h ↦ let some = slice_get-get_or l (length l - 1) 0 (omega arith) in differ (cc)
    ]

is_last : (l : List ℕ) (x : ℕ) → Some x ≡ slice_get l (length l - 1) → (0 < length l) × (get_or l (length l - 1) 0 ≡ x)
is_last l x e =
    elim (eq-zero-or-pos (length l)) [
      | inl z ↦ let none = slice_get_past l (length l - 1) (omega arith) in differ (cc)
      | inr h ↦ (h, get_or_from_slice_get l (length l - 1) x 0 (sym e))
    ]

pub returns-then-time-eq18446744073709551615 : goal.returns-then-time-eq18446744073709551615
returns-then-time-eq18446744073709551615 c =
    let table : Table = lent c.args.times.now c.args.ids.now in
    time-refused table (item c.args.time c.args.id.now) (right_size table c.requires.0.0).0 c.requires.1 c.requires.0.1 c.if-time-eq18446744073709551615.true

pub returns-in_default : goal.returns-in_default
returns-in_default c =
    let table : Table = lent c.args.times.now c.args.ids.now in
    let low : c.args.time < 2 ^ 64 - 1 = omega (arith, c.if-time-eq18446744073709551615.false) in
    first-rises table (item c.args.time c.args.id.now) (right_size table c.requires.0.0).0 c.requires.1 c.requires.0.1 low (no_last table.times c.in_default.ensures.value)

pub overflow_sub-ids : goal.overflow_sub-ids
overflow_sub-ids c =
    let table : Table = lent c.args.times.now c.args.ids.now in
    omega (arith, (right_size table c.requires.0.0).0, (is_last table.times _ c.in-Some.ensures.value).0)

pub id_below-requires : goal.id_below-requires
id_below-requires c =
    let table : Table = lent c.args.times.now c.args.ids.now in
    let some : 0 < length table.times = (is_last table.times _ c.in-Some.ensures.value).0 in
    let size = (right_size table c.requires.0.0).0 in
    (simp (length-take, length-drop) (omega arith), omega arith)

pub returns-then-before-time : goal.returns-then-before-time
returns-then-before-time c =
    let table : Table = lent c.args.times.now c.args.ids.now in
    let low : c.args.time < 2 ^ 64 - 1 = omega (arith, c.if-time-eq18446744073709551615.false) in
    let last = is_last table.times _ c.in-Some.ensures.value in
    let small : Small table.ids = λ k. omega (arith, c.type_inv.ids k) in
    rw (lt-ltb _ _ c.if-before-time.true) (later-rises table (item c.args.time c.args.id.now) (right_size table c.requires.0.0).0 c.requires.1 c.requires.0.1 low last.0 small (omega arith))

pub returns-then-before-time-2 : goal.returns-then-before-time-2
returns-then-before-time-2 c =
    let table : Table = lent c.args.times.now c.args.ids.now in
    let size = (right_size table c.requires.0.0).0 in
    let low : c.args.time < 2 ^ 64 - 1 = omega (arith, c.if-time-eq18446744073709551615.false) in
    let last = is_last table.times _ c.in-Some.ensures.value in
    let at : (length table.times - 1) * 32 ≡ length table.ids - 32 = omega (arith, last.0) in
    same-time table (item c.args.time c.args.id.now) size c.requires.1 c.requires.0.1 low last.0 c.id_below.result (last.1 ∙ c.if-before-time-2.true) (rw at c.id_below.ensures)

pub returns-else-before-time-2 : goal.returns-else-before-time-2
returns-else-before-time-2 c =
    let table : Table = lent c.args.times.now c.args.ids.now in
    let low : c.args.time < 2 ^ 64 - 1 = omega (arith, c.if-time-eq18446744073709551615.false) in
    let last = is_last table.times _ c.in-Some.ensures.value in
    let small : Small c.args.id.now = λ k. omega (arith, c.type_inv.id k) in
    rw (ne_eqb _ _ c.if-before-time-2.false) (earlier_fails table (item c.args.time c.args.id.now) (right_size table c.requires.0.0).0 c.requires.1 c.requires.0.1 low last.0 small (omega (arith, c.if-before-time-2.false)))
