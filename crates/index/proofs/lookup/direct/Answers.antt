-- `index::lookup::direct` meets its contract. The invariant: it is written where the buckets below b begin, and the words before `k` lie in buckets below b.
use Prim.Native.Nat.{◌+◌}
use mathlib.Core.Path.{◌≡◌, ◌∙◌}
use native.Mathlib.Omega.{arith}
use lib.ListN.{length, get_or, length-set}
use lib.Seq.{get_or-set_other}
use Rattle.message.proofs.Order.{Small}
use Rattle.index.specs.Lookup.{Head}
use Rattle.index.proofs.Directory.{head_at, head_set}
use Rattle.index.proofs.lookup.direct.Goals as goal

pub loop-b-preserved : goal.loop-b-preserved
loop-b-preserved c =
    let a = c.args in
    let l = c.loop-b in
    let v = l.invariant in
    let k = c.head-k in
    let low = get_or a.words.now 0 0 in
    let shift = c.shift_for-shift.result in
    let small : Small a.list.now = λ k. omega (arith, c.type_inv.list k) in
    let begins : Head a.words.now a.n low shift l.b k.result = head_at a.list.now a.words.now a.pos.now a.n small c.requires.4 c.requires.5 low shift l.b l.k k.result k.ensures.0 v.1 k.ensures.1 k.ensures.2 in
    let long : length l.pos ≡ length a.pos.now = l.auto.pos ∙ length-set a.pos.now (a.n + a.n + 1) shift in (
      begins.within,
      (λ j x. let y = begins.below j x in omega arith),
      head_set a.words.now l.pos a.n low shift l.b k.result (omega arith) v.2 begins,
      (λ j x. get_or-set_other l.pos (a.n + l.b) j k.result 0 (λ e. omega arith) ∙ v.3 j x),
      get_or-set_other l.pos (a.n + l.b) (a.n + a.n + 1) k.result 0 (λ e. omega arith) ∙ v.4,
    )
