-- `room::count::count_between` meets its contract. The invariant: `Counted`.
use Prim.Native.Nat.{ℕ, ◌+◌}
use mathlib.Core.Path.{ap, ◌∙◌}
use mathlib.Core.Bool.{not}
use mathlib.Core.List.{List}
use native.Mathlib.Omega.{arith}
use Rattle.message.specs.Code.{ids_in}
use Rattle.message.specs.WellFormed.{All, Bytes, Sized}
use Rattle.message.proofs.Order.{small_bytes}
use Rattle.table.specs.Code.{lent}
use Rattle.table.specs.Table.{Table}
use Rattle.walk.specs.Adding.{added_from}
use Rattle.walk.specs.Walking.{starts}
use Rattle.walk.proofs.Adding.{added_sized, added_few}
use Rattle.ends.proofs.Inserting.{Sorted}
use Rattle.needed.proofs.Buffers.{ids_sorted}
use Rattle.room.proofs.Windows.{left_falls, next-made}
use Rattle.room.proofs.Counting.{counted_goes, counted-few, counted-on, counted-between}
use Rattle.room.proofs.count.count_between.Goals as goal

pub overflow_add-more : goal.overflow_add-more
overflow_add-more c =
    let a = c.args in
    let T : Table = lent a.times.now a.own.now in
    let m : List ℕ = a.m.now in
    let ds : List (List ℕ) = ids_in a.size a.needed.now in
    let all : List (List ℕ) = added_from T m starts in
    let bytes : Bytes m = small_bytes m (λ k. omega (arith, c.type_inv.m k)) in
    let sorted : Sorted ds = ids_sorted a.size a.needed.now (λ k. omega (arith, c.type_inv.needed k)) c.requires.2 c.requires.3 in
    let whole : All (Sized 32) all = added_sized T m starts bytes c.requires.1 in
    let l = c.loop-next in
    let r = c.cap-interval in
    let w = c.next_window-window in
    let b = c.behind-next in
    let next = next-made m a.low a.last l.floor r.result r.ensures all w.new.pos w.result w.ensures.0 b.result b.ensures in
    let d = c.drop_known-more in
    let few = w.ensures.0.few in
    let fewer = d.ensures.upper_bound.0 in
    let goes = counted_goes m all ds sorted whole a.low a.last l.floor l.more l.invariant r.result r.ensures bytes w.new.pos w.result w.ensures.0 (omega arith)
    d.new.pos d.result (omega arith) d.ensures.result_after b.result next in
    omega (arith, counted-few m all ds sorted whole _ _ _ goes, added_few T m starts bytes c.requires.1, c.well_formed)

pub returns-then-is_none : goal.returns-then-is_none
returns-then-is_none c =
    let a = c.args in
    let T : Table = lent a.times.now a.own.now in
    let m : List ℕ = a.m.now in
    let ds : List (List ℕ) = ids_in a.size a.needed.now in
    let all : List (List ℕ) = added_from T m starts in
    let bytes : Bytes m = small_bytes m (λ k. omega (arith, c.type_inv.m k)) in
    let sorted : Sorted ds = ids_sorted a.size a.needed.now (λ k. omega (arith, c.type_inv.needed k)) c.requires.2 c.requires.3 in
    let whole : All (Sized 32) all = added_sized T m starts bytes c.requires.1 in
    let l = c.loop-next in
    let r = c.cap-interval in
    let w = c.next_window-window in
    let b = c.behind-next in
    let next = next-made m a.low a.last l.floor r.result r.ensures all w.new.pos w.result w.ensures.0 b.result b.ensures in
    let d = c.drop_known-more in
    let few = w.ensures.0.few in
    let fewer = d.ensures.upper_bound.0 in
    let goes = counted_goes m all ds sorted whole a.low a.last l.floor l.more l.invariant r.result r.ensures bytes w.new.pos w.result w.ensures.0 (omega arith)
    d.new.pos d.result (omega arith) d.ensures.result_after b.result next in
    counted-between m all ds a.low a.last (l.more + d.result) b.result (c.is_none.ensures ∙ ap not c.if-is_none.true) goes

pub loop-next-smaller : goal.loop-next-smaller
loop-next-smaller c =
    let a = c.args in
    let m : List ℕ = a.m.now in
    let all : List (List ℕ) = added_from (lent a.times.now a.own.now) m starts in
    let l = c.loop-next in
    let r = c.cap-interval in
    let w = c.next_window-window in
    let b = c.behind-next in
    let next = next-made m a.low a.last l.floor r.result r.ensures all w.new.pos w.result w.ensures.0 b.result b.ensures in
    left_falls m a.low a.last l.floor r.result r.ensures all w.new.pos w.result w.ensures.0 b.result (c.is_none.ensures ∙ ap not c.if-is_none.false) next

pub loop-next-preserved : goal.loop-next-preserved
loop-next-preserved c =
    let a = c.args in
    let T : Table = lent a.times.now a.own.now in
    let m : List ℕ = a.m.now in
    let ds : List (List ℕ) = ids_in a.size a.needed.now in
    let all : List (List ℕ) = added_from T m starts in
    let bytes : Bytes m = small_bytes m (λ k. omega (arith, c.type_inv.m k)) in
    let sorted : Sorted ds = ids_sorted a.size a.needed.now (λ k. omega (arith, c.type_inv.needed k)) c.requires.2 c.requires.3 in
    let whole : All (Sized 32) all = added_sized T m starts bytes c.requires.1 in
    let l = c.loop-next in
    let r = c.cap-interval in
    let w = c.next_window-window in
    let b = c.behind-next in
    let next = next-made m a.low a.last l.floor r.result r.ensures all w.new.pos w.result w.ensures.0 b.result b.ensures in
    let d = c.drop_known-more in
    let few = w.ensures.0.few in
    let fewer = d.ensures.upper_bound.0 in
    let goes = counted_goes m all ds sorted whole a.low a.last l.floor l.more l.invariant r.result r.ensures bytes w.new.pos w.result w.ensures.0 (omega arith)
    d.new.pos d.result (omega arith) d.ensures.result_after b.result next in
    counted-on m all ds a.low a.last (l.more + d.result) b.result (c.is_none.ensures ∙ ap not c.if-is_none.false) goes w.new.pos w.result _ next
