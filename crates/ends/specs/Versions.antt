-- SPEC 5.8: what the answer to another version is, and that no session comes about by it.
use Rattle.std.specs.Prelude.{◌≡◌, ◌⊎◌, ℕ, ◌≤◌, ◌<◌}
use mathlib.Core.List.{List, [], ◌∷◌, Memᴰ}
use Rattle.theory.specs.Rounds.{Cut}
use Rattle.table.specs.Answer.{Answer, refused}
use Rattle.table.specs.Table.{Table, judge_table}
use Rattle.cutting.specs.Cutting.{judge_cut}
use Rattle.limit.specs.Limit.{Limit, judge_limit}
use Rattle.ends.specs.Calls.{Result, result}
use Rattle.ends.specs.Responder.{send, replied, answered_within}
use Rattle.ends.specs.Opener.{Lent, opened_within, taken_within}
use Rattle.ends.specs.Demand.{Take, Place, sends, opening, run}
use Rattle.ends.specs.Mixed.{Takes}

abbrev pub Begins61 : List ℕ → Type 0
Begins61 m = (rest : List ℕ) × (m ≡ 0x61 ∷ rest)

-- The answer of a responder, by the first byte of the query: checks 1 to 3 and 14, and then what is named here.
module _ (limit : Limit) (T : Table) (c : Cut) (out : List ℕ) where
  abbrev pub once_checked : Answer (ℕ × List ℕ) → Result (List ℕ)
  once_checked next = result out (judge_table T (judge_cut c (judge_limit limit next)))

  pub record ByVersion : Type 0 where
    -- what begins with 61 "is answered as in 5.1" (SPEC 5.8)
    pub own : (rest : List ℕ) → answered_within limit T c (0x61 ∷ rest) out ≡ once_checked (replied limit T c (0x61 ∷ rest) out)
    -- SPEC 5.8: "The responder answers it with the single byte 61, the highest version that it knows, and reads nothing more of it."
    pub other : (v : ℕ) (rest : List ℕ) → 0x60 ≤ v → v ≤ 0x6F → (v ≡ 0x61 → ⊥) → answered_within limit T c (v ∷ rest) out ≡ once_checked (send (0x61 ∷ []) out)
    -- SPEC 7.6: "for an answer, it is empty or its first byte is outside 60 to 6F"
    pub outside : (v : ℕ) (rest : List ℕ) → (v < 0x60) ⊎ (0x6F < v) → answered_within limit T c (v ∷ rest) out ≡ once_checked (refused 6)
    pub empty : answered_within limit T c [] out ≡ once_checked (refused 6)

abbrev pub AnswersByVersion : Type 0
AnswersByVersion = (limit : Limit) (T : Table) (c : Cut) (out : List ℕ) → ByVersion limit T c out

-- SPEC 5.8: "whatever an opening or a take sends begins with 61"
pub record Sends61 : Type 0 where
  pub by_opening : (limit : Limit) (T : Table) (c : Cut) (l : Lent) (q : List ℕ)
      → Memᴰ q (sends (opened_within limit T c l).answer (opened_within limit T c l).lent.out) → Begins61 q
  pub by_take : (limit : Limit) (T : Table) (c : Cut) (reply : List ℕ) (l : Lent) (q : List ℕ)
      → Memᴰ q (sends (taken_within limit T c reply l).answer (taken_within limit T c reply l).lent.out) → Begins61 q
  -- so does each query that stands behind a list of takes as sent, whatever these were handed: no take of `Demand3` is handed the answer to another version
  pub in_list : (A B : Table) (a b : Cut) (l : Lent) (takes : List Take) (q : List ℕ) → Memᴰ q (run A B a b (opening A a l) takes).sent → Begins61 q
  -- and of `Demand3Mixed`
  pub in_mix : (A B : Table) (a b : Cut) (limit : Limit) (l : Lent) (p : Place) → Takes A B a b limit l p → (q : List ℕ) → Memᴰ q p.sent → Begins61 q
