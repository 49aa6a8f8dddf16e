-- Lists of takes whose calls were computed: what `Demand3Mixed` asks of them, and what it owes.
use mathlib.Core.Path.{◌≡◌, refl, sym, ap, ◌∙◌}
use mathlib.Core.List.{List, ◌∷◌, ◌++◌, Memᴰ}
use Prim.Native.Nat.{ℕ}
use lib.ListN.{take}
use Rattle.theory.specs.Rounds.{OddItems, Cut}
use Rattle.table.specs.Answer.{answer}
use Rattle.table.specs.Table.{Table}
use Rattle.limit.specs.Limit.{Limit}
use Rattle.ends.specs.Calls.{Result}
use Rattle.ends.specs.Responder.{answered_within}
use Rattle.ends.specs.Opener.{Lent}
use Rattle.ends.specs.Demand.{Place, hands, behind_call}
use Rattle.ends.specs.Takes.{lent_at, called}
use Rattle.ends.specs.Mixed.{by, AnyTake, handed_to, taking, AnswersWithin, Promised}
use Rattle.ends.proofs.Mixed.{demand3_mixed}
use Rattle.rounds.specs.Mixed.{after, Asked, Owed}

pub last-sent : {q : List ℕ} {sent old : List (List ℕ)} → sent ≡ q ∷ old → Memᴰ q sent
last-sent e = rw e (Memᴰ.head refl)

abbrev pub answering : ℕ → List ℕ → Result (List ℕ)
answering n out = record { answer = answer n; lent = out }

module _ (A B : Table) (a b : Cut) where
  -- an unrefused answer, which wrote r
  pub answers : {n : ℕ} {q r : List ℕ} (limit : Limit) (o : OddItems) (out : List ℕ) → answered_within limit B (by o b) q out ≡ answering n r → take n r ≡ r
      → AnswersWithin A B a b limit o q r
  answers {n} limit o out e whole = record {
    out = out;
    size = n;
    unrefused = ap (λ (z : Result (List ℕ)). z.answer) e;
    written = sym whole ∙ ap (λ (z : Result (List ℕ)). take n z.lent) (sym e);
  }

  -- a take at a place that was computed, whose call was
  module _ {p at : Place} (is : p ≡ at) (x : AnyTake) {r : Result Lent} (e : taking A B a b x (lent_at at x.handed) ≡ r) where
    pub behind : after A B a b p x ≡ behind_call r at.sent (hands r.answer x.handed ++ at.handed)
    behind =
        ap (λ (z : Place). after A B a b z x) is
        ∙ ap (λ (z : Result Lent). behind_call z at.sent (hands z.answer x.handed ++ at.handed)) e

    pub answered : (called handed_to (taking A B a b) (Promised A B a b) p x).answer ≡ r.answer
    answered =
        ap (λ (z : Place). (called handed_to (taking A B a b) (Promised A B a b) z x).answer) is
        ∙ ap (λ (z : Result Lent). z.answer) e

  pub owed : (L : ℕ) (limit : Limit) {lent : Lent} {n : ℕ} {p : Place} (h : Asked A B a b L limit lent n p) → Owed A B a b L limit h
  owed L limit {lent} {n} {p} h = demand3_mixed A B a b h.ours_bytes h.theirs_bytes h.once L h.smallest limit lent n h.opens p h.takes
