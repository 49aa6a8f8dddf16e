-- `index::lookup::Index::hit` meets its contract.
use Prim.Native.Nat.{◌+◌, ◌-◌}
use mathlib.Core.Path.{◌≡◌, sym, ◌∙◌}
use native.Mathlib.Omega.{arith}
use Rattle.message.proofs.Order.{Small}
use Rattle.index.proofs.Directory.{word_same, sought_one}
use Rattle.index.proofs.Meeting.{hit_nowhere}
use Rattle.index.proofs.lookup.Index.hit.Goals as goal

pub hit_at-requires : goal.hit_at-requires
hit_at-requires c =
    let a = c.args in
    let k = c.in-Some.k in
    let small : Small a.id.now = λ k. omega (arith, c.type_inv.id k) in
    let one : k + 1 - k ≡ 1 = omega arith in
    (c.requires.0, c.word-first.ensures, c.requires.1, sought_one a.self.now.sound a.id.now small k (k + 1) one (rw c.word-first.ensures at (c.is_only.ensures c.if-is_only.true)))

pub returns-then-surely_lacks : goal.returns-then-surely_lacks
returns-then-surely_lacks c =
    let a = c.args in
    let x = a.self.now.sound in
    let small : Small a.id.now = λ k. omega (arith, c.type_inv.id k) in
    hit_nowhere _ _ _ _ _ (λ i h e. c.surely_lacks.ensures c.if-surely_lacks.true i h (word_same x a.id.now small i h e ∙ sym c.word-first.ensures))
