-- `index::lookup::Index::is_only` meets its contract.
use Prim.Native.Nat.{◌+◌, ◌-◌, ◌<◌}
use native.Mathlib.Omega.{arith}
use lib.ListN.{get_or}
use borrow.Author.Tests.{ltb-true}
use Rattle.index.proofs.lookup.Index.is_only.Goals as goal

pub returns-then-self-k-2 : goal.returns-then-self-k-2
returns-then-self-k-2 c = λ e.
    let a = c.args in
    let words = a.self.now.words.now in
    let rises = a.self.now.sound.rises in
    let above : a.first < get_or words (a.k + 1) 0 = ltb-true _ _ e in
    record {
      ordered = omega arith;
      within = omega arith;
      below = λ j h. let w = rises j (a.k - 1) (omega arith) (omega arith) in omega arith;
      above = λ j h l. let w = rises (a.k + 1) j h l in omega arith;
    }
