-- `judging::merge::Sofar::note` meets its contract.
use Prim.Native.Nat.{ℕ}
use mathlib.Core.Path.{◌≡◌, refl, ◌∙◌}
use mathlib.Core.Bool.{◌&&◌}
use mathlib.Core.List.{List}
use native.Mathlib.Omega.{arith}
use Rattle.message.specs.Code.{payload_of}
use Rattle.judging.specs.Private.{allowed}
use Rattle.judging.proofs.Noting.{counted_on, noted}
use Rattle.judging.proofs.merge.Sofar.note.Goals as goal
use Rattle.judging.proofs.merge.Sofar.note.Goals.{then-self, else-self}

pub returns-then-self-2 : goal.returns-then-self-2
returns-then-self-2 c =
    let a = c.args in
    let fits : (m : List ℕ) → c.if-self.result ≡ (a.self.fits && allowed a.asked (payload_of a.payload m)) =
    λ m. elim c.if-self.branch [ then-self w ↦ rw w.if-self.true (w.result-is ∙ w.allows.ensures m) | else-self w ↦ rw w.if-self.false (cc) ] in
    λ m ps. rw c.if-not-meets.false
    (noted a.asked a.self _ (payload_of a.payload m) (fits m) (rw c.if-self-2.true (c.is_ids.ensures m))
    (λ k. rw c.saturating_add.ensures (counted_on a.self.met 18446744073709551615 k (omega arith))) ps)

pub returns-else-self-2 : goal.returns-else-self-2
returns-else-self-2 c =
    let a = c.args in
    let fits : (m : List ℕ) → c.if-self.result ≡ (a.self.fits && allowed a.asked (payload_of a.payload m)) =
    λ m. elim c.if-self.branch [ then-self w ↦ rw w.if-self.true (w.result-is ∙ w.allows.ensures m) | else-self w ↦ rw w.if-self.false (cc) ] in
    λ m ps. rw c.if-not-meets.false
    (noted a.asked a.self _ (payload_of a.payload m) (fits m) (rw c.if-self-2.false refl)
    (λ k. rw c.saturating_add.ensures (counted_on a.self.met 18446744073709551615 k (omega arith))) ps)
