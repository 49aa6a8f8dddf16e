-- `needed::batch::add_list` meets its contract. The invariant: `Adding`, with the ids that are left of the list still to come.
use Prim.Native.Nat.{◌+◌, ◌-◌, ◌*◌, ◌≤◌}
use mathlib.Core.Path.{◌≡◌, refl}
use mathlib.Core.Bool.{cond}
use native.Mathlib.Omega.{arith}
use lib.ListN.{drop, length-drop}
use Rattle.message.proofs.Order.{Small, small-drop}
use Rattle.message.specs.WellFormed.{All, Sized}
use Rattle.needed.specs.Batches.{not_found}
use Rattle.needed.proofs.Batching.{adding_starts, adding_on, adding_ends, adding_room_end, adding_end, new_whole, others_left, others-left-all, others-left-none, others-left-next, others-left-whole}
use Rattle.needed.proofs.batch.add_list.Goals as goal
use Rattle.needed.proofs.batch.add_list.Goals.{then-falls, else-falls}

pub loop-left-init : goal.loop-left-init
loop-left-init c =
    let a = c.args in record {
      few = omega arith;
      bytes = λ k. omega (arith, c.type_inv.needed k);
      adding = adding_on a.m.now a.needed.now a.batch _ _ a.needed.now a.words.now a.pos.now a.batch _ (others-left-all a.own.now (a.span.lo * 32) (a.span.hi - a.span.lo) a.m.now a.count a.at c.falls-falls.result) (adding_starts a.m.now a.needed.now a.words.now a.pos.now a.batch _ c.requires.0);
    }

pub add_new-batch-requires : goal.add_new-batch-requires
add_new-batch-requires c =
    let a = c.args in
    let l = c.loop-left in
    let n = c.block-n.result in
    let start = a.span.lo * 32 in
    let owned = a.span.hi - a.span.lo in
    let first = c.if-falls.first in
    let small : Small a.m.now = λ k. omega (arith, c.type_inv.m k) in
    let falls = c.falls-falls.result in
    let few : n ≤ l.left = c.block-n.ensures.0 in
    let is : first ≡ cond falls (l.left - n) (a.count - l.left) = elim c.if-falls.branch [
      | then-falls w ↦ rw (w.if-falls.true, w.first-is) refl
      | else-falls w ↦ rw (w.if-falls.false, w.first-is) refl
    ] in
    let within : first + n ≤ a.count = elim c.if-falls.branch [ then-falls w ↦ omega arith | else-falls w ↦ omega arith ] in
    let at = a.at + first * 32 in
    let part = not_found c.contains_each.new.found n (drop at a.m.now) in
    let rest = others_left falls a.own.now start owned a.m.now a.count a.at (l.left - n) in
    let part-whole : All (Sized 32) part = new_whole n c.contains_each.new.found (drop at a.m.now) (small-drop at a.m.now small) (omega (arith, length-drop at a.m.now)) in
    let rest-whole : All (Sized 32) rest = others-left-whole a.own.now start owned a.m.now a.count a.at falls (l.left - n) small c.requires.4 (omega arith) in
    let next = others-left-next a.own.now start owned a.m.now a.count a.at falls c.contains_each.new.found l.left n first (omega arith) few is c.contains_each.ensures in (
      l.invariant.adding.batched,
      omega arith,
      omega arith,
      omega arith,
      adding_room_end a.m.now a.needed.now a.batch _ _ part rest l.needed l.words l.pos l.batch small l.invariant.bytes part-whole rest-whole next l.invariant.adding (rw l.auto.needed c.requires.6),
    )

pub loop-left-preserved : goal.loop-left-preserved
loop-left-preserved c =
    let a = c.args in
    let l = c.loop-left in
    let n = c.block-n.result in
    let start = a.span.lo * 32 in
    let owned = a.span.hi - a.span.lo in
    let first = c.if-falls.first in
    let small : Small a.m.now = λ k. omega (arith, c.type_inv.m k) in
    let falls = c.falls-falls.result in
    let few : n ≤ l.left = c.block-n.ensures.0 in
    let is : first ≡ cond falls (l.left - n) (a.count - l.left) = elim c.if-falls.branch [
      | then-falls w ↦ rw (w.if-falls.true, w.first-is) refl
      | else-falls w ↦ rw (w.if-falls.false, w.first-is) refl
    ] in
    let within : first + n ≤ a.count = elim c.if-falls.branch [ then-falls w ↦ omega arith | else-falls w ↦ omega arith ] in
    let at = a.at + first * 32 in
    let part = not_found c.contains_each.new.found n (drop at a.m.now) in
    let rest = others_left falls a.own.now start owned a.m.now a.count a.at (l.left - n) in
    let part-whole : All (Sized 32) part = new_whole n c.contains_each.new.found (drop at a.m.now) (small-drop at a.m.now small) (omega (arith, length-drop at a.m.now)) in
    let rest-whole : All (Sized 32) rest = others-left-whole a.own.now start owned a.m.now a.count a.at falls (l.left - n) small c.requires.4 (omega arith) in
    let next = others-left-next a.own.now start owned a.m.now a.count a.at falls c.contains_each.new.found l.left n first (omega arith) few is c.contains_each.ensures in
    let t = c.add_new-batch in record {
      few = omega arith;
      bytes = λ k. omega (arith, c.type_inv.needed k);
      adding = adding_end a.m.now a.needed.now a.batch _ _ part rest l.needed l.words l.pos l.batch small l.invariant.bytes part-whole rest-whole next l.invariant.adding t.new.needed t.new.words t.new.pos t.result t.ensures;
    }

pub returns : goal.returns
returns c =
    let a = c.args in
    let l = c.loop-left in
    adding_ends a.m.now a.needed.now a.batch _ _ l.needed l.words l.pos l.batch (others-left-none a.own.now (a.span.lo * 32) (a.span.hi - a.span.lo) a.m.now a.count a.at c.falls-falls.result l.left (omega arith)) l.invariant.adding
