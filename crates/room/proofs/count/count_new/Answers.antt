-- `room::count::count_new` meets its contract. The invariant: the ids below the next interval are counted.
use Prim.Native.Nat.{ℕ, ◌+◌, ◌*◌, ◌≤◌}
use mathlib.Core.Path.{◌≡◌, refl, sym, ap, ◌∙◌}
use mathlib.Core.List.{List}
use native.Mathlib.Omega.{arith}
use lib.ListN.{length}
use Rattle.message.specs.Code.{ids_in}
use Rattle.message.specs.WellFormed.{All, Bytes, Sized}
use Rattle.message.proofs.Forms.{ids-count}
use Rattle.message.proofs.Order.{small_bytes}
use Rattle.table.specs.Code.{lent}
use Rattle.table.specs.Table.{Table}
use Rattle.walk.specs.Adding.{added_from}
use Rattle.walk.specs.Walking.{starts}
use Rattle.walk.proofs.Adding.{added_sized, added_few}
use Rattle.window.specs.Windows.{word_span}
use Rattle.ends.proofs.Inserting.{Sorted}
use Rattle.needed.proofs.Buffers.{ids_sorted}
use Rattle.room.specs.Counts.{list_below}
use Rattle.room.proofs.Windows.{list-few}
use Rattle.room.proofs.Counting.{counted_none, counted_all, counted-ends}
use Rattle.room.proofs.count.count_new.Goals as goal

pub loop-words-init : goal.loop-words-init
loop-words-init c = record {
  words = refl;
  pos = refl;
  keys = refl;
  places = refl;
  found = refl;
  ids = refl;
  picks = refl;
  counted = counted_none (added_from (lent c.args.times.now c.args.own.now) c.args.m.now starts) (ids_in c.args.size c.args.needed.now);
}

pub overflow_add-more : goal.overflow_add-more
overflow_add-more c =
    let a = c.args in
    let T : Table = lent a.times.now a.own.now in
    let m : List ℕ = a.m.now in
    let ds : List (List ℕ) = ids_in a.size a.needed.now in
    let all : List (List ℕ) = added_from T m starts in
    let bytes : Bytes m = small_bytes m (λ k. omega (arith, c.type_inv.m k)) in
    let sorted : Sorted ds = ids_sorted a.size a.needed.now (λ k. omega (arith, c.type_inv.needed k)) c.requires.2 c.requires.3 in
    let whole : All (Sized 32) all = added_sized T m starts bytes c.requires.1 in
    let more = c.loop-words.more + c.count_between-more.result in
    let goes : length (list_below ds all ((c.interval_end-last.result + 1) * word_span)) ≡ more + length ds = omega (arith, c.count_between-more.ensures, c.loop-words.invariant.counted) in
    let few : more ≤ length m = omega (arith, goes, (list-few ds all sorted whole ((c.interval_end-last.result + 1) * word_span)).1, added_few T m starts bytes c.requires.1) in
    omega (arith, few, c.well_formed)

pub returns-then-last : goal.returns-then-last
returns-then-last c =
    let a = c.args in
    let T : Table = lent a.times.now a.own.now in
    let m : List ℕ = a.m.now in
    let ds : List (List ℕ) = ids_in a.size a.needed.now in
    let all : List (List ℕ) = added_from T m starts in
    let bytes : Bytes m = small_bytes m (λ k. omega (arith, c.type_inv.m k)) in
    let sorted : Sorted ds = ids_sorted a.size a.needed.now (λ k. omega (arith, c.type_inv.needed k)) c.requires.2 c.requires.3 in
    let whole : All (Sized 32) all = added_sized T m starts bytes c.requires.1 in
    let more = c.loop-words.more + c.count_between-more.result in
    let goes : length (list_below ds all ((c.interval_end-last.result + 1) * word_span)) ≡ more + length ds = omega (arith, c.count_between-more.ensures, c.loop-words.invariant.counted) in
    let few : more ≤ length m = omega (arith, goes, (list-few ds all sorted whole ((c.interval_end-last.result + 1) * word_span)).1, added_few T m starts bytes c.requires.1) in
    (counted-ends T m ds more a.size (ap length (sym (counted_all all ds c.interval_end-last.result whole c.if-last.true)) ∙ goes) (ids-count a.size a.needed.now), few)
