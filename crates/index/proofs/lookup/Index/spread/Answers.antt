-- `index::lookup::Index::spread` meets its contract. The invariant: all is noted of the ids at the first k places of the index.
use Prim.Native.Nat.{◌-◌}
use native.Mathlib.Omega.{arith}
use Rattle.index.proofs.Heaps.{told_below, told-above}
use Rattle.index.proofs.Meeting.{met-above, met-equal}
use Rattle.index.proofs.lookup.Index.spread.Goals as goal
use Rattle.index.proofs.lookup.Index.spread.Goals.{then-not-key_below, else-not-key_below}

pub loop-k-preserved : goal.loop-k-preserved
loop-k-preserved c =
    let self = c.args.self.now in
    let x = self.sound in
    let l = c.loop-k in
    let at = x.from l.k (omega arith) in
    let before = x.from (l.k - 1) (omega arith) in
    elim c.if-not-key_below.branch [
      | then-not-key_below w ↦
          rw w.found-is
          (λ list count m.
          met-equal list count self.ids.now self.words.now self.pos.now l.found self.n x l.k (omega arith) (omega arith) (l.invariant list count m)
          _ _ (omega arith) at.0 before.0 before.1 (told-above _ _ _ c.key_below.ensures w.if-not-key_below.true))
      | else-not-key_below w ↦
          rw w.found-is
          (λ list count m.
          met-above list count self.ids.now self.words.now self.pos.now l.found self.n x l.k (omega arith) (omega arith) (l.invariant list count m)
          (told_below _ _ _ c.key_below.ensures w.if-not-key_below.false))
    ]
