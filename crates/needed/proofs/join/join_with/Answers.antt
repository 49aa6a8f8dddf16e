-- `needed::join::join_with` meets its contract. The invariant: `Adding`, with what the ranges from the walk on add still to come.
use Prim.Native.Nat.{ℕ, ◌+◌, ◌-◌, ◌*◌, ◌≤◌}
use mathlib.Core.List.{List, [], ◌++◌, foldr}
use native.Mathlib.Omega.{arith}
use lib.ListN.{length, drop}
use Rattle.message.specs.Code.{ids_in}
use Rattle.message.specs.WellFormed.{All, Bytes, Sized}
use Rattle.message.proofs.Order.{Small, small_bytes}
use Rattle.table.specs.Code.{lent}
use Rattle.table.specs.Table.{Table}
use Rattle.ends.specs.Opener.{insert}
use Rattle.walk.specs.Walking.{starts}
use Rattle.walk.specs.Adding.{added_from, others}
use Rattle.walk.proofs.Adding.{own_room, ids-inside, added_sized, added_ends, needed_is}
use Rattle.walk.specs.declared.Step.{Step}
use Rattle.needed.specs.declared.batch.Batch.{Batch}
use Rattle.needed.proofs.Batching.{Adding, adding_on, adding_room, adding_room_part, adding_part, joining_batch, others-add-none, ids-add-next, batch-joined, list-sized}
use Rattle.index.proofs.Rooms.{room-kept}
use Rattle.needed.proofs.join.join_with.Goals as goal

pub loop-walk-init : goal.loop-walk-init
loop-walk-init c =
    let a = c.args in
    rw c.start-walk.ensures (record {
      walking = c.requires.1;
      bytes = λ k. omega (arith, c.type_inv.needed k);
      adding = joining_batch a.m.now a.needed.now a.words.now a.pos.now a.size _ c.requires.2 c.requires.3 c.requires.6 c.requires.7;
    })

pub add_list-batch-requires : goal.add_list-batch-requires
add_list-batch-requires c =
    let T : Table = lent c.args.times.now c.args.own.now in
    let m : List ℕ = c.args.m.now in
    let s₀ : List ℕ = c.args.needed.now in
    let whole : List (List ℕ) = foldr insert (ids_in c.args.size s₀) (added_from T m starts) in
    let b₀ : Batch = record { size = c.args.size; count = 0 } in
    let small : Small m = λ k. omega (arith, c.type_inv.m k) in
    let bytes : Bytes m = small_bytes m small in
    let room : length whole * 32 ≤ length s₀ = rw (needed_is T m (ids_in c.args.size s₀)) at c.requires.4 in
    let room-here : length whole * 32 ≤ length c.loop-walk.needed = rw c.loop-walk.auto.needed room in
    let step : Step = c.step-step.result in
    let count : ℕ = c.in-Ids.count in
    let place : ℕ = c.in-Ids.at in
    let inside : place + count * 32 ≤ length m = ids-inside step.payload (length m) count place c.in-Ids.is c.step-step.ensures.payload in
    let part : List (List ℕ) = others c.args.own.now step.span (ids_in count (drop place m)) in
    let rest : List (List ℕ) = added_from T m step.next in
    let next : let l = c.loop-walk in
    Adding m s₀ b₀ whole (part ++ rest) l.needed l.words l.pos l.batch = let l = c.loop-walk in
    adding_on m s₀ b₀ whole _ l.needed l.words l.pos l.batch (part ++ rest)
    (ids-add-next T m l.walk step c.step-step.ensures count place c.in-Ids.is) l.invariant.adding in
    let part-sized : All (Sized 32) part = list-sized c.args.own.now (step.span.lo * 32) (step.span.hi - step.span.lo) m count place small inside in
    let rest-sized : All (Sized 32) rest = added_sized T m step.next bytes c.step-step.ensures.next in
    let l = c.loop-walk in
    let v = l.invariant in
    let s = c in
    let own : (step).span.lo * 32 + ((step).span.hi - (step).span.lo) * 32 ≤ length s.args.own.now = (own_room (T) (step).span c.requires.0 c.step-step.ensures.span).0 in
    let ordered = c.step-step.ensures.span.0 in (
      v.adding.batched,
      omega arith,
      ordered,
      omega (arith, ordered),
      inside,
      room-kept s.args.keys.now s.args.places.now s.args.found.now l.keys l.places l.found c.requires.8 l.auto.keys l.auto.places l.auto.found,
      adding_room_part (m) (s₀) (b₀) (whole) (part) (rest) l.needed l.words l.pos l.batch (small) v.bytes (part-sized) (rest-sized) (next) (room-here),
    )

pub loop-walk-preserved-in-Ids : goal.loop-walk-preserved-in-Ids
loop-walk-preserved-in-Ids c =
    let T : Table = lent c.args.times.now c.args.own.now in
    let m : List ℕ = c.args.m.now in
    let s₀ : List ℕ = c.args.needed.now in
    let whole : List (List ℕ) = foldr insert (ids_in c.args.size s₀) (added_from T m starts) in
    let b₀ : Batch = record { size = c.args.size; count = 0 } in
    let small : Small m = λ k. omega (arith, c.type_inv.m k) in
    let bytes : Bytes m = small_bytes m small in
    let step : Step = c.step-step.result in
    let count : ℕ = c.in-Ids.count in
    let place : ℕ = c.in-Ids.at in
    let inside : place + count * 32 ≤ length m = ids-inside step.payload (length m) count place c.in-Ids.is c.step-step.ensures.payload in
    let part : List (List ℕ) = others c.args.own.now step.span (ids_in count (drop place m)) in
    let rest : List (List ℕ) = added_from T m step.next in
    let next : let l = c.loop-walk in
    Adding m s₀ b₀ whole (part ++ rest) l.needed l.words l.pos l.batch = let l = c.loop-walk in
    adding_on m s₀ b₀ whole _ l.needed l.words l.pos l.batch (part ++ rest)
    (ids-add-next T m l.walk step c.step-step.ensures count place c.in-Ids.is) l.invariant.adding in
    let part-sized : All (Sized 32) part = list-sized c.args.own.now (step.span.lo * 32) (step.span.hi - step.span.lo) m count place small inside in
    let rest-sized : All (Sized 32) rest = added_sized T m step.next bytes c.step-step.ensures.next in
    let l = c.loop-walk in
    let v = l.invariant in
    let t = c.add_list-batch in record {
      walking = c.step-step.ensures.next;
      bytes = λ i. omega (arith, c.type_inv.needed i);
      adding = adding_part m s₀ b₀ whole part rest l.needed l.words l.pos l.batch small v.bytes part-sized rest-sized next
          t.new.needed t.new.words t.new.pos t.result t.ensures;
    }

pub loop-walk-preserved : goal.loop-walk-preserved
loop-walk-preserved c =
    let T : Table = lent c.args.times.now c.args.own.now in
    let m : List ℕ = c.args.m.now in
    let l = c.loop-walk in
    record {
      walking = c.step-step.ensures.next;
      bytes = l.invariant.bytes;
      adding = adding_on m c.args.needed.now (record { size = c.args.size; count = 0 }) _ _ l.needed l.words l.pos l.batch _
          (others-add-none T m l.walk c.step-step.result c.step-step.ensures c.in_default.not-Ids) l.invariant.adding;
    }

pub flush-requires : goal.flush-requires
flush-requires c =
    let T : Table = lent c.args.times.now c.args.own.now in
    let m : List ℕ = c.args.m.now in
    let s₀ : List ℕ = c.args.needed.now in
    let whole : List (List ℕ) = foldr insert (ids_in c.args.size s₀) (added_from T m starts) in
    let b₀ : Batch = record { size = c.args.size; count = 0 } in
    let room : length whole * 32 ≤ length s₀ = rw (needed_is T m (ids_in c.args.size s₀)) at c.requires.4 in
    let room-here : length whole * 32 ≤ length c.loop-walk.needed = rw c.loop-walk.auto.needed room in
    let ended : length (m) ≤ c.loop-walk.walk.cursor.at → let l = c.loop-walk in Adding (m) (s₀) (b₀) (whole) [] l.needed l.words l.pos l.batch = λ h. let l = c.loop-walk in
    adding_on (m) (s₀) (b₀) (whole) _ l.needed l.words l.pos l.batch [] (added_ends (T) (m) l.walk h) l.invariant.adding in
    let l = c.loop-walk in
    (l.invariant.adding.batched, adding_room (m) (s₀) (b₀) (whole) [] l.needed l.words l.pos l.batch (ended c.loop-walk-test.false) (room-here))

pub returns : goal.returns
returns c =
    let T : Table = lent c.args.times.now c.args.own.now in
    let m : List ℕ = c.args.m.now in
    let s₀ : List ℕ = c.args.needed.now in
    let whole : List (List ℕ) = foldr insert (ids_in c.args.size s₀) (added_from T m starts) in
    let b₀ : Batch = record { size = c.args.size; count = 0 } in
    let small : Small m = λ k. omega (arith, c.type_inv.m k) in
    let ended : length (m) ≤ c.loop-walk.walk.cursor.at → let l = c.loop-walk in Adding (m) (s₀) (b₀) (whole) [] l.needed l.words l.pos l.batch = λ h. let l = c.loop-walk in
    adding_on (m) (s₀) (b₀) (whole) _ l.needed l.words l.pos l.batch [] (added_ends (T) (m) l.walk h) l.invariant.adding in
    let l = c.loop-walk in
    let f = c.flush in
    let list = batch-joined (m) (s₀) (b₀) (whole) l.needed l.words l.pos l.batch (small) l.invariant.bytes (ended c.loop-walk-test.false) f.new.needed f.result f.ensures.0 f.ensures.1 in
    rw (needed_is (T) (m) (ids_in c.args.size (s₀))) (record { value = list.0; needed_after = list.1 })
