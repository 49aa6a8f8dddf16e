-- SPEC 6.8: sessions with replies of any kind. `Replies` says of a table and two messages that the second may be handed over as the reply of a responder with this
-- table to the first.
use Rattle.std.specs.Prelude.{◌≡◌, List, ◌++◌, ℕ}
use Rattle.message.specs.WellFormed.{Bytes}
use Rattle.theory.specs.Rounds.{Cut}
use Rattle.table.specs.Answer.{answer}
use Rattle.table.specs.Table.{Table, items}
use Rattle.ends.specs.Opener.{Lent, opened, taken}
use Rattle.ends.specs.Demand.{Take, Place, opening, Reported, OneTime}
use Rattle.ends.specs.Takes.{Run}

-- SPEC 6.8: "Reports are as true and complete as in 6.5 with any mix of lawful replies." "The number of queries is then not promised."
abbrev pub TrueAndComplete : (Table → List ℕ → List ℕ → Type 0) → Type 0
TrueAndComplete Replies =
    (A B : Table) (a : Cut) → Bytes A.ids → Bytes B.ids → OneTime (items A ++ items B)
    → (lent : Lent) (n : ℕ) → (opened A a lent).answer ≡ answer n
    → (p : Place) → Run (λ (t : Take). t) (λ t. taken A a t.reply) (λ t. Replies B t.query t.reply) (opening A a lent) p
    → Reported A B p
