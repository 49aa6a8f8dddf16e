-- `index::lookup::Index::hit_at` meets its contract.
use mathlib.Core.Path.{sym, ◌∙◌}
use native.Mathlib.Omega.{arith}
use borrow.Author.Tests.{eqb-true, eqb-false}
use Rattle.index.proofs.Meeting.{hit_nowhere, hit_at_lem}
use Rattle.index.proofs.lookup.Index.hit_at.Goals as goal

pub returns-then-self-k : goal.returns-then-self-k
returns-then-self-k c = hit_nowhere _ _ _ _ _ (c.requires.3.only (λ l. absurd (omega arith)))

pub returns-then-is_at : goal.returns-then-is_at
returns-then-is_at c =
    let a = c.args in
    let self = a.self.now in
    let from = self.sound.from a.k (omega arith) in
    hit_at_lem self.ids.now self.pos.now self.n _ a.k a.found.now c.requires.3 _ (omega arith) (omega arith) from.0 (eqb-true _ _ (sym c.is_at.ensures ∙ c.if-is_at.true))

pub returns-then-eq : goal.returns-then-eq
returns-then-eq c = hit_nowhere _ _ _ _ _ (c.requires.3.only (λ l. eqb-false _ _ (sym c.is_at.ensures ∙ c.if-is_at.false)))

pub returns-else-eq : goal.returns-else-eq
returns-else-eq c = hit_nowhere _ _ _ _ _ (c.requires.3.only (λ l. eqb-false _ _ (sym c.is_at.ensures ∙ c.if-is_at.false)))
