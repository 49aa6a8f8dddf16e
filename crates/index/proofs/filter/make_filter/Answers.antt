-- `index::filter::make_filter` meets its contract. The invariant: the words before `word` are noted.
use Prim.Native.Nat.{◌<◌}
use mathlib.Core.Path.{◌≡◌, refl, ap, ◌∙◌}
use native.Mathlib.Omega.{arith}
use borrow.Author.Count.{below_more}
use lib.ListN.{length, get_or}
use lib.Seq.{length-take-le, get_or-take, get_or-set_same, get_or-set_other}
use Rattle.index.specs.Filter.{slot_of}
use Rattle.index.proofs.Heaps.{by-same}
use Rattle.index.proofs.filter.make_filter.Goals as goal

pub loop-word-preserved : goal.loop-word-preserved
loop-word-preserved c =
    let words = c.args.words.now in
    let l = c.loop-word in
    let s = c.slot in
    let at : s.result ≡ slot_of (get_or words l.word-index 0) = s.ensures.0 ∙ ap slot_of (get_or-take c.args.n words l.word-index 0 (omega (arith, length-take-le c.args.n words c.requires))) in
    let inside : s.result < length l.room = omega (arith, s.ensures.1) in
    below_more _ _
    (λ j h.
    by-same (slot_of (get_or words j 0)) s.result
    (λ e. rw (e, get_or-set_same l.room s.result 1 0 inside) refl)
    (λ e. rw (get_or-set_other l.room s.result (slot_of (get_or words j 0)) 1 0 e) (l.invariant j h)))
    (rw (← at, get_or-set_same l.room s.result 1 0 inside) refl)
