-- `session::fingerprint::of_items` meets its contract.
use mathlib.Core.Path.{◌≡◌, refl, ap, ◌∙◌}
use Prim.Native.Nat.{◌*◌, ◌≤◌, ◌<◌}
use native.Mathlib.Omega.{arith}
use lib.ListN.{length}
use borrow.Author.Rules.{rules}
use Rattle.table.specs.Code.{lent}
use Rattle.table.specs.Table.{Table}
use Rattle.table.proofs.Items.{right_size}
use Rattle.label.specs.Label.{fingerprint}
use Rattle.label.proofs.Ids.{empty_is}
use Rattle.cutting.specs.Cutting.{fingerprint_of}
use Rattle.cutting.proofs.Parts.{run-print}
use Rattle.session.proofs.Ranges.{range-run, range-empty}
use Rattle.session.proofs.fingerprint.of_items.Goals as goal

pub returns-then-hi-lo : goal.returns-then-hi-lo
returns-then-hi-lo c =
    let table : Table = lent c.args.times.now c.args.ids.now in
    let lo = c.first_at_or_above-lo in
    let hi = c.first_at_or_above-hi in
    c.fingerprint.ensures ∙ ap fingerprint empty_is ∙ range-empty (table) c.requires _ _ lo.result hi.result lo.ensures.0 hi.ensures.0 c.if-hi-lo.true

pub overflow_mul-lo : goal.overflow_mul-lo
overflow_mul-lo c =
    let table : Table = lent c.args.times.now c.args.ids.now in
    let sized : (length c.args.ids.now ≡ 32 * length c.args.times.now) × (length c.args.times.now ≤ 1048576) = right_size (table) c.requires.0 in
    let r = sized in
    let l = c.first_at_or_above-lo.ensures.1 in
    omega arith

pub overflow_mul-hi : goal.overflow_mul-hi
overflow_mul-hi c =
    let table : Table = lent c.args.times.now c.args.ids.now in
    let sized : (length c.args.ids.now ≡ 32 * length c.args.times.now) × (length c.args.times.now ≤ 1048576) = right_size (table) c.requires.0 in
    let r = sized in
    let l = c.first_at_or_above-hi.ensures.1 in
    omega arith

pub slice_bounds-of_ids-end : goal.slice_bounds-of_ids-end
slice_bounds-of_ids-end c =
    let table : Table = lent c.args.times.now c.args.ids.now in
    let sized : (length c.args.ids.now ≡ 32 * length c.args.times.now) × (length c.args.times.now ≤ 1048576) = right_size (table) c.requires.0 in
    let r = sized in
    let l = c.first_at_or_above-hi.ensures.1 in
    search rules

pub returns : goal.returns
returns c =
    let table : Table = lent c.args.times.now c.args.ids.now in
    let lo = c.first_at_or_above-lo in
    let hi = c.first_at_or_above-hi in
    let h : lo.result < hi.result = c.if-hi-lo.false in
    c.fingerprint-2.ensures ∙ ap fingerprint c.of_ids.ensures
    ∙ run-print (table) c.requires lo.result hi.result (omega arith) hi.ensures.1 _ refl
    ∙ ap fingerprint_of (range-run (table) c.requires _ _ lo.result hi.result lo.ensures.0 hi.ensures.0)
