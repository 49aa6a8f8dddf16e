-- The answer by the first byte of the query; and whatever the opener sends begins with 61.
use Prim.Native.Nat.{ℕ, zero, suc}
use mathlib.Core.Path.{◌≡◌, refl}
use mathlib.Core.List.Memᴰ
use mathlib.Core.List.{List, [], ◌∷◌, Memᴰ}
use mathlib.Core.Logic.{◌⊎◌, inl, inr, ⊎_elim}
use native.Mathlib.Omega.{arith}
use lib.ListN.{length, take}
use borrow.Author.Tests.{le-leb, lt-leb, ne_eqb}
use Rattle.message.specs.Message.{Range, read_message, spell_ranges, spell_message}
use Rattle.message.specs.Bound.{start}
use Rattle.message.proofs.Exact.{by_test}
use Rattle.theory.specs.Rounds.{Cut}
use Rattle.table.specs.Answer.{Answer, answer, refused}
use Rattle.table.specs.Table.{Item, Table, items}
use Rattle.limit.specs.Limit.{Limit, unlimited, limited, sent_message}
use Rattle.ends.specs.Lists.{overwrite}
use Rattle.ends.specs.Calls.{Result}
use Rattle.ends.specs.Responder.{other_version, answered_within}
use Rattle.ends.specs.Opener.{Lent, first_query, opening_leaves, opened_within, next_query, skips_only, written, take_leaves, taken_within}
use Rattle.ends.specs.Demand.{Take, Place, sends, behind_call, opening, call, next, run}
use Rattle.ends.specs.Takes.{none, then_refused, then_taken}
use Rattle.ends.specs.Mixed.{by, opening_within, taking, Takes}
use Rattle.ends.specs.Versions.{Begins61, AnswersByVersion, Sends61}
use Rattle.ends.proofs.Lists.{overwrite-front}
use Rattle.ends.proofs.Calls.{unrefused-opening, unrefused-take}

-- ---- Answer

pub answers_by_version : AnswersByVersion
unfolding answered_within other_version read_message
answers_by_version limit T c out = record {
  own = λ rest. refl;
  other = λ v rest low high new. rw (le-leb 0x60 v low, le-leb v 0x6F high, ne_eqb v 0x61 new) refl;
  outside = λ v rest far.
      ⊎_elim
      (λ low. rw (lt-leb 0x60 v low, ne_eqb v 0x61 (λ e. omega arith)) refl)
      (λ high. rw (le-leb 0x60 v (omega arith), lt-leb v 0x6F high, ne_eqb v 0x61 (λ e. omega arith)) refl)
      far;
  empty = refl;
}

-- ---- Open and Take

-- n bytes were written at the start of out: none, or a message
record Wrote (n : ℕ) (out : List ℕ) : Type 0 where
  message : List ℕ
  before : List ℕ
  begins : (message ≡ []) ⊎ Begins61 message
  size : length message ≡ n
  left : out ≡ overwrite message before

wrote_begins : (n : ℕ) (out : List ℕ) → Wrote n out → (q : List ℕ) → Memᴰ q (sends (answer n) out) → Begins61 q
wrote_begins zero out w q m = elim m [ ]
wrote_begins (suc n) out w q m = ⊎_elim here (λ k. elim k [ ]) (Memᴰ.cases_cons m)
  where
    here : q ≡ take (suc n) out → Begins61 q
    here e =
        let z = rw (w.left, overwrite-front w.message w.before (suc n) w.size) at e in
        ⊎_elim (λ none. absurd (let s = rw none at w.size in omega arith)) (λ b. rw z b) w.begins

sends-begin : (a : Answer ℕ) (out : List ℕ) → ((n : ℕ) → a ≡ answer n → Wrote n out) → (q : List ℕ) → Memᴰ q (sends a out) → Begins61 q
sends-begin (answer n) out w q m = wrote_begins n out (w n refl) q m
sends-begin (refused k) out w q m = elim m [ ]

message_begins : (rs : List Range) → Begins61 (spell_message rs)
unfolding spell_message
message_begins rs = (spell_ranges start rs, refl)

sent_begins : (limit : Limit) (T : List Item) (rs : List Range) → Begins61 (sent_message limit T rs)
unfolding sent_message
sent_begins limit T rs = message_begins (limited limit T rs)

written_begins : (limit : Limit) (T : List Item) (rs : List Range) → (written limit T rs ≡ []) ⊎ Begins61 (written limit T rs)
unfolding written
written_begins limit T rs = by_test (skips_only rs) (λ e. inl (rw e refl)) (λ e. inr (rw e (sent_begins limit T rs)))

opening_begins : (limit : Limit) (T : Table) (c : Cut) (l : Lent) (q : List ℕ)
    → Memᴰ q (sends (opened_within limit T c l).answer (opened_within limit T c l).lent.out) → Begins61 q
unfolding opening_leaves
opening_begins limit T c l =
    sends-begin (opened_within limit T c l).answer (opened_within limit T c l).lent.out
    (λ n e. let w = unrefused-opening limit T c l n e in record {
      message = sent_message limit (items T) (first_query c (items T));
      before = l.out;
      begins = inr (sent_begins limit (items T) (first_query c (items T)));
      size = w.size;
      left = rw w.left refl;
    })

take_begins : (limit : Limit) (T : Table) (c : Cut) (reply : List ℕ) (l : Lent) (q : List ℕ)
    → Memᴰ q (sends (taken_within limit T c reply l).answer (taken_within limit T c reply l).lent.out) → Begins61 q
unfolding take_leaves
take_begins limit T c reply l =
    sends-begin (taken_within limit T c reply l).answer (taken_within limit T c reply l).lent.out
    (λ n e. let w = unrefused-take limit T c reply l n e in record {
      message = written limit (items T) (next_query c (items T) w.ranges);
      before = l.out;
      begins = written_begins limit (items T) (next_query c (items T) w.ranges);
      size = w.size;
      left = rw w.left refl;
    })

-- ---- lists of takes

abbrev AllBegin : List (List ℕ) → Type 0
AllBegin sent = (q : List ℕ) → Memᴰ q sent → Begins61 q

-- behind a call
behind_begins : (r : Result Lent) (sent : List (List ℕ)) (handed : List (List ℕ × List ℕ)) → AllBegin (sends r.answer r.lent.out) → AllBegin sent
    → AllBegin (behind_call r sent handed).sent
behind_begins r sent handed by before q m = ⊎_elim (by q) (before q) (Memᴰ.append_cases (sends r.answer r.lent.out) m)

opened_begins : (limit : Limit) (T : Table) (c : Cut) (l : Lent) → AllBegin (opening_within limit T c l).sent
opened_begins limit T c l = behind_begins (opened_within limit T c l) [] [] (opening_begins limit T c l) (λ q m. elim m [ ])

run_begins : (A B : Table) (a b : Cut) (p : Place) → AllBegin p.sent → (takes : List Take) → AllBegin (run A B a b p takes).sent
run_begins A B a b p before [] = before
run_begins A B a b p before (t ∷ ts) =
    run_begins A B a b (next A B a b p t) (behind_begins (call A B a b p t) p.sent [] (take_begins unlimited A a t.reply _) before) ts

mix_begins : (A B : Table) (a b : Cut) (limit : Limit) (l : Lent) {p : Place} → Takes A B a b limit l p → AllBegin p.sent
mix_begins A B a b limit l none = opened_begins limit A a l
mix_begins A B a b limit l (then_refused {p = p} ρ x k e) =
    behind_begins (taking A B a b x _) p.sent [] (take_begins x.limit x.table (by x.odd a) x.handed.reply _) (mix_begins A B a b limit l ρ)
mix_begins A B a b limit l (then_taken {p = p} ρ x n e asked allowed) =
    behind_begins (taking A B a b x _) p.sent [] (take_begins x.limit x.table (by x.odd a) x.handed.reply _) (mix_begins A B a b limit l ρ)

pub sends_61 : Sends61
sends_61 = record {
  by_opening = opening_begins;
  by_take = take_begins;
  in_list = λ A B a b l takes. run_begins A B a b (opening A a l) (opened_begins unlimited A a l) takes;
  in_mix = λ A B a b limit l p takes. mix_begins A B a b limit l takes;
}
