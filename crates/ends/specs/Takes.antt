-- Lists of takes after one opening in which takes and replies may differ in kind from each other, as by a rule for cutting or a byte limit. `Demand` says the same of
-- takes that are all alike.
use Rattle.std.specs.Prelude.{◌≡◌, true, ℕ, zero, suc}
use mathlib.Core.List.{List, ◌∷◌, ◌++◌, Memᴰ}
use Rattle.table.specs.Answer.{answer, refused}
use Rattle.table.specs.Table.{Table}
use Rattle.ends.specs.Calls.{Result}
use Rattle.ends.specs.Opener.{Lent}
use Rattle.ends.specs.Demand.{Take, Place, hands, behind_call, Reported}

-- SPEC 6.2: "Each take is handed session, marks and needed list as the call before left them."
abbrev pub lent_at : Place → Take → Lent
lent_at p t = record { session = p.session; marks = p.marks; needed = p.needed ++ t.behind; out = t.out }

-- X is what a take brings, of which `handed` is what every take is handed beside session, marks and needed list. `call` is what a take does with what it is lent.
-- `Allowed` is what is asked of an unrefused take beside that its query was sent before: of its reply, above all.
module _ {X : Type 0} (handed : X → Take) (call : X → Lent → Result Lent) (Allowed : X → Type 0) where
  -- what the call of a take at a place answers and leaves, and the place behind it
  abbrev pub called : Place → X → Result Lent
  called p x = call x (lent_at p (handed x))

  abbrev pub next : Place → X → Place
  next p x = behind_call (called p x) p.sent (hands (called p x).answer (handed x) ++ p.handed)

  -- A list of takes after an opening that left the place o, and the place that it leads to. Every beginning of such a list is one too, so that what holds of
  -- every list holds at every place of each. SPEC 6.2: "An unrefused take is handed an unrefused answer of the responder to a query sent before it, late or
  -- repeated and in any order; a refused take may have been handed any bytes as its reply."
  pub data Run (o : Place) : Place → Type 0 where
    none : Run o o
    then_refused : {p : Place} → Run o p → (x : X) (k : ℕ) → (called p x).answer ≡ refused k → Run o (next p x)
    then_taken : {p : Place} → Run o p → (x : X) (n : ℕ) → (called p x).answer ≡ answer n → Memᴰ (handed x).query p.sent → Allowed x → Run o (next p x)

  -- The list ends in n unrefused takes "in a row, each handed the answer to the query last sent" (SPEC 6.6). SPEC 6.6: "Refused takes between those in a row do
  -- not count and do not end the row."
  abbrev pub Row : {o p : Place} → ℕ → Run o p → Type 0
  Row zero ρ = Unit {0}
  Row (suc n) none = ⊥
  Row {o = o} (suc n) (then_refused {p = p} ρ x k e) = Row {o = o} {p = p} (suc n) ρ
  Row {o = o} (suc n) (then_taken {p = p} ρ x m e asked allowed) = ((old : List (List ℕ)) × (p.sent ≡ (handed x).query ∷ old)) × Row {o = o} {p = p} n ρ

  -- An end may cut its message short. `WholeFirst`, `WholeReply` and `WholeQuery` say that the first query, the reply that a take was handed and the query that it
  -- came to were not.
  module _ (WholeFirst : Type 0) (WholeReply : X → Type 0) (WholeQuery : X → Type 0) where
    -- Nothing was cut short in the last n takes, neither their replies nor the queries that they came to, and the query last sent before them was not: the first
    -- query, or that of an earlier take.
    abbrev pub Whole : {o p : Place} → ℕ → Run o p → Type 0
    Whole zero none = WholeFirst
    Whole (suc n) none = ⊥
    Whole {o = o} zero (then_refused {p = p} ρ x k e) = Whole {o = o} {p = p} zero ρ
    Whole {o = o} (suc n) (then_refused {p = p} ρ x k e) = Whole {o = o} {p = p} (suc n) ρ
    Whole zero (then_taken ρ x m e asked allowed) = WholeQuery x
    Whole {o = o} (suc n) (then_taken {p = p} ρ x m e asked allowed) = Whole {o = o} {p = p} n ρ × WholeReply x × WholeQuery x

    -- What is owed at a place, ρ being the list up to it, A the opener's table and B the responder's.
    pub record Owed (A B : Table) (L : ℕ) {o p : Place} (ρ : Run o p) : Type 0 where
      pub reported : Reported A B p
      -- SPEC 6.6: "Wherever in the list L + 1 unrefused takes stand in a row, .. the session is done with the last of them at the latest": owed where nothing
      -- was cut short
      pub ends : Whole (suc L) ρ → Row (suc L) ρ → p.session.done ≡ true
