-- `needed::batch::add_new` meets its contract. The invariant: `Adding`, with the ids that are left still to come.
use Prim.Native.Nat.{◌+◌, ◌-◌, ◌*◌, ◌<◌}
use mathlib.Core.Path.{◌≡◌, refl}
use mathlib.Core.Bool.{cond}
use native.Mathlib.Omega.{arith}
use lib.ListN.{take, drop, get_or, length-drop}
use Rattle.message.proofs.Order.{Small, small-drop}
use Rattle.message.specs.WellFormed.{All, Sized}
use Rattle.needed.specs.Batches.{unless}
use Rattle.needed.proofs.Pointed.{id-sized}
use Rattle.needed.proofs.Batching.{adding_starts, adding_on, adding_ends, adding_room_end, adding_end, new_left, new-left-all, new-left-none, new-left-next, new-left-whole, unless-whole}
use Rattle.needed.proofs.batch.add_new.Goals as goal
use Rattle.needed.proofs.batch.add_new.Goals.{then-falls, else-falls}

pub loop-k-init : goal.loop-k-init
loop-k-init c =
    let a = c.args in record {
      bytes = λ k. omega (arith, c.type_inv.needed k);
      adding = adding_on a.m.now a.needed.now a.batch _ _ a.needed.now a.words.now a.pos.now a.batch _ (new-left-all a.found.now a.n a.m.now a.at a.falls) (adding_starts a.m.now a.needed.now a.words.now a.pos.now a.batch _ c.requires.0);
    }

pub add_unless-batch-requires : goal.add_unless-batch-requires
add_unless-batch-requires c =
    let a = c.args in
    let l = c.loop-k in
    let i = c.if-falls.i in
    let small : Small a.m.now = λ k. omega (arith, c.type_inv.m k) in
    let is : i ≡ cond a.falls (a.n - 1 - l.k) l.k = elim c.if-falls.branch [
      | then-falls w ↦ rw (w.if-falls.true, w.i-is) refl
      | else-falls w ↦ rw (w.if-falls.false, w.i-is) refl
    ] in
    let within : i < a.n = elim c.if-falls.branch [ then-falls w ↦ omega arith | else-falls w ↦ omega arith ] in
    let at = a.at + i * 32 in
    let part = unless (get_or a.found.now i 0) (take 32 (drop at a.m.now)) in
    let rest = new_left a.falls a.found.now a.n a.m.now a.at (l.k + 1) in
    let part-whole : All (Sized 32) part = unless-whole (get_or a.found.now i 0) (take 32 (drop at a.m.now)) (id-sized (drop at a.m.now) (small-drop at a.m.now small) (omega (arith, length-drop at a.m.now))) in
    let rest-whole : All (Sized 32) rest = new-left-whole a.found.now a.n a.m.now a.at a.falls (l.k + 1) small c.requires.2 (omega arith) in
    let next = new-left-next a.found.now a.n a.m.now a.at a.falls l.k i (omega arith) is in (
      l.invariant.adding.batched,
      omega arith,
      omega arith,
      adding_room_end a.m.now a.needed.now a.batch _ _ part rest l.needed l.words l.pos l.batch small l.invariant.bytes part-whole rest-whole next l.invariant.adding (rw (c.loop-k.auto.needed) c.requires.4),
    )

pub loop-k-preserved : goal.loop-k-preserved
loop-k-preserved c =
    let a = c.args in
    let l = c.loop-k in
    let i = c.if-falls.i in
    let small : Small a.m.now = λ k. omega (arith, c.type_inv.m k) in
    let is : i ≡ cond a.falls (a.n - 1 - l.k) l.k = elim c.if-falls.branch [
      | then-falls w ↦ rw (w.if-falls.true, w.i-is) refl
      | else-falls w ↦ rw (w.if-falls.false, w.i-is) refl
    ] in
    let within : i < a.n = elim c.if-falls.branch [ then-falls w ↦ omega arith | else-falls w ↦ omega arith ] in
    let at = a.at + i * 32 in
    let part = unless (get_or a.found.now i 0) (take 32 (drop at a.m.now)) in
    let rest = new_left a.falls a.found.now a.n a.m.now a.at (l.k + 1) in
    let part-whole : All (Sized 32) part = unless-whole (get_or a.found.now i 0) (take 32 (drop at a.m.now)) (id-sized (drop at a.m.now) (small-drop at a.m.now small) (omega (arith, length-drop at a.m.now))) in
    let rest-whole : All (Sized 32) rest = new-left-whole a.found.now a.n a.m.now a.at a.falls (l.k + 1) small c.requires.2 (omega arith) in
    let next = new-left-next a.found.now a.n a.m.now a.at a.falls l.k i (omega arith) is in
    let t = c.add_unless-batch in record {
      bytes = λ k. omega (arith, c.type_inv.needed k);
      adding = adding_end a.m.now a.needed.now a.batch _ _ part rest l.needed l.words l.pos l.batch small l.invariant.bytes part-whole rest-whole next l.invariant.adding t.new.needed t.new.words t.new.pos t.result t.ensures;
    }

pub returns : goal.returns
returns c =
    let a = c.args in
    let l = c.loop-k in
    adding_ends a.m.now a.needed.now a.batch _ _ l.needed l.words l.pos l.batch (new-left-none a.found.now a.n a.m.now a.at a.falls l.k (omega arith)) l.invariant.adding
