-- SPEC 15.8: the answers of our responder are approved.
use Rattle.std.specs.Prelude.{ℕ, ◌≡◌, true, List, ◌∷◌, take}
use Rattle.message.specs.WellFormed.{Bytes}
use Rattle.theory.specs.Rounds.{Cut}
use Rattle.table.specs.Answer.{answer}
use Rattle.table.specs.Table.{Table}
use Rattle.ends.specs.Responder.{answered}
use Rattle.judge.specs.Judge.{judged}

-- SPEC 15.8: "Every unrefused answer of a responder (5.1) without a byte limit to a query that begins with 61 gets a yes, for every cut and by either rule"
abbrev pub ResponderApproved : Type 0
ResponderApproved =
    (T : Table) (c : Cut) (rest out : List ℕ) (n : ℕ) → Bytes T.ids → Bytes (0x61 ∷ rest) → (answered T c (0x61 ∷ rest) out).answer ≡ answer n
    → judged T (0x61 ∷ rest) (take n (answered T c (0x61 ∷ rest) out).lent) ≡ answer true
