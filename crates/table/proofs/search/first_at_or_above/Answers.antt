-- `table::search::first_at_or_above` meets its contract. The invariant: the place of the bound lies between lo and hi.
use native.Mathlib.Omega.{arith}
use Prim.Native.Nat.{ℕ, ◌+◌, ◌-◌, ◌/◌}
use mathlib.Core.Path.{◌≡◌, ◌∙◌}
use lib.Dec.{ltb}
use borrow.Author.Rules.{rules}
use borrow.Author.Tests.{ltb-true, ltb-false}
use Rattle.message.specs.Bound.{Bound, finite, key}
use Rattle.message.proofs.Forms.{key_is}
use Rattle.table.specs.Code.{lent}
use Rattle.table.specs.Table.{Table, key_of, items}
use Rattle.table.specs.Private.{item_at, place_of}
use Rattle.table.proofs.Items.{right_size}
use Rattle.table.proofs.Keys.{item-key}
use Rattle.table.proofs.Places.{place-ends, place_same, above-item, not-above-item}
use Rattle.table.proofs.search.first_at_or_above.Goals as goal

pub loop-lo-init : goal.loop-lo-init
loop-lo-init c =
    let table : Table = lent c.args.times.now c.args.ids.now in
    (omega arith, place-ends _ table, omega arith)

pub overflow_mul-mid : goal.overflow_mul-mid
overflow_mul-mid c =
    let table : Table = lent c.args.times.now c.args.ids.now in
    omega (arith, (right_size table c.requires.0).1)

pub slice_bounds-below-count : goal.slice_bounds-below-count
slice_bounds-below-count c =
    let table : Table = lent c.args.times.now c.args.ids.now in
    omega (arith, (right_size table c.requires.0).0)

pub slice_bounds-below-start : goal.slice_bounds-below-start
slice_bounds-below-start c =
    let table : Table = lent c.args.times.now c.args.ids.now in
    let r = right_size table c.requires.0 in
    search rules

pub loop-lo-preserved-then-below : goal.loop-lo-preserved-then-below
loop-lo-preserved-then-below c =
    let table : Table = lent c.args.times.now c.args.ids.now in
    let middle : ℕ = c.loop-lo.lo + (c.loop-lo.hi - c.loop-lo.lo) / 2 in
    let asked : Bound = finite c.time-time.result c.prefix-prefix.result.now in
    let compared : c.below.result ≡ ltb (key_of (item_at table middle)) (key asked) = rw (← item-key table middle) c.below.ensures in
    let w = above-item table c.requires asked middle (omega arith) (ltb-true _ _ (rw (← compared) c.if-below.true)) in
    (omega arith, c.loop-lo.invariant.1, c.loop-lo.invariant.2)

pub loop-lo-preserved : goal.loop-lo-preserved
loop-lo-preserved c =
    let table : Table = lent c.args.times.now c.args.ids.now in
    let middle : ℕ = c.loop-lo.lo + (c.loop-lo.hi - c.loop-lo.lo) / 2 in
    let asked : Bound = finite c.time-time.result c.prefix-prefix.result.now in
    let compared : c.below.result ≡ ltb (key_of (item_at table middle)) (key asked) = rw (← item-key table middle) c.below.ensures in
    (c.loop-lo.invariant.0, not-above-item table c.requires asked middle (omega arith) (ltb-false _ _ (rw (← compared) c.if-below.false)), omega arith)

pub returns : goal.returns
returns c =
    let table : Table = lent c.args.times.now c.args.ids.now in
    let asked : Bound = finite c.time-time.result c.prefix-prefix.result.now in
    let a = c.args in
    let at : c.loop-lo.lo ≡ place_of asked (items table) = omega arith in
    let same = key_is a.bound a.beside.now _ _ c.time-time.ensures c.prefix-prefix.ensures in
    (at ∙ place_same asked _ (items table) same, omega arith)
