-- `judging::merge::asks` meets its contract.
use mathlib.Core.Path.{refl, sym, ◌∙◌}
use Rattle.judge.specs.Judge.{answers}
use Rattle.judging.proofs.Listing.{asks_equal, asks_other}
use Rattle.judging.proofs.merge.asks.Goals as goal

pub returns-in-Skip : goal.returns-in-Skip
unfolding answers
returns-in-Skip c = λ ps. rw c.in-Skip.is refl

pub returns-then-equals_own : goal.returns-then-equals_own
returns-then-equals_own c =
    λ ps. rw c.in-Fingerprint.is (asks_equal _ _ ps (sym c.if-equals_own.true ∙ c.equals_own.ensures))

pub returns-else-equals_own : goal.returns-else-equals_own
returns-else-equals_own c =
    λ ps. rw c.in-Fingerprint.is (asks_other _ _ ps (sym c.if-equals_own.false ∙ c.equals_own.ensures))

pub returns-in-Ids : goal.returns-in-Ids
unfolding answers
returns-in-Ids c = λ ps. rw c.in-Ids.is refl
