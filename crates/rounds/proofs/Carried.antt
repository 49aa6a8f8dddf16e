-- The carried session computed from the definitions, SHA-256 included, one call after another, and that it meets all that `Demand3Mixed` asks for.
use mathlib.Core.Path.{◌≡◌, refl, ap}
use mathlib.Core.Bool.{Bool, true, false}
use mathlib.Core.List.Memᴰ
use mathlib.Core.List.{List, [], ◌∷◌, ◌++◌, flatten, zip_with}
use Prim.Native.Nat.{ℕ, zero, suc, ◌*◌, ◌^◌, ◌≤◌}
use native.Mathlib.Omega.{arith}
use lib.ListN.{replicate}
use Rattle.message.specs.Reader.{read_bytes}
use Rattle.message.specs.Varint.{read_digits, read_varint, digits_before, spell_varint}
use Rattle.message.specs.Code.{ids_in}
use Rattle.message.specs.Bound.{big_endian, id_space, key, read_prefix, read_coded, read_bound, spell_prefix, spell_bound}
use Rattle.message.specs.Message.{read_ids, read_of_mode, read_payload, read_range, read_ranges, read_message, spell_payload, spell_range, spell_ranges, spell_message}
use Rattle.message.specs.Meaning.{is_skip, prepend, tidy, write_message}
use Rattle.theory.specs.Rounds.{to_first, to_last}
use Rattle.theory.specs.Standard.{sizes}
use Rattle.theory.specs.Cutting.{split}
use Rattle.table.specs.Answer.{answer}
use Rattle.table.specs.Lists.{keep, every, rising}
use Rattle.table.specs.Table.{key_of, items, wrong_size, not_rising, within}
use Rattle.sha256.specs.Fips180.{digest, blocks, pad, padding, compress, plus, rounds, round, T₁, T₂, K, schedule, extend, words, next}
use Rattle.label.specs.Label as L
use Rattle.label.specs.Label.{little_endian, total, label_of, low_bytes, hashed, same_label}
use Rattle.cutting.specs.Cutting.{fingerprint_of, shared, shortest, outside_limits, inner_bound, fingerprint_ranges, cut}
use Rattle.limit.specs.Limit.{unlimited, below_least, exceeds, limited, sent_message}
use Rattle.ends.specs.Lists.{some, same, overwrite}
use Rattle.ends.specs.Calls.{Result, each_range}
use Rattle.ends.specs.Responder.{compare, treat, reply, other_version, answered_within}
use Rattle.ends.specs.Opener.{Lent, wrong_buffers, wrong_contents, other_label, first_query, opening_leaves, begin, opened_within, next_query, written, unlisted, marks_after, unowned, insert, needed_after, take_leaves, conclude, taken_within}
use Rattle.ends.specs.Demand.{Place, behind_call}
use Rattle.ends.specs.Takes.{lent_at, none, then_taken}
use Rattle.ends.specs.Mixed.{by, opening_within, AnswersWithin, Takes}
use Rattle.ends.specs.Instance.{starting, two}
use Rattle.rounds.specs.Carried.{ours, theirs, former, lent, query₁, reply₁, query₂, reply₂, query₃, reply₃, OnlyFormer, take₁, take₂, take₃, place₁, place₂, place₃, AskedUpTo, AcrossTheChange, late₁, late₂, late₃, ComesTo, LateComesTo}
use Rattle.rounds.proofs.Tests.{all_bytes, one_time}
use Rattle.rounds.proofs.Mixed.{last-sent, answering, answers, behind, answered, owed}

-- ---- the calls, one after another, each from the place behind the one before

abbrev leaving : ℕ → ℕ → ℕ → Bool → List ℕ → List ℕ → List ℕ → Result Lent
leaving n marked needed done marks list out = record {
  answer = answer n;
  lent = record { session = record { marked = marked; needed = needed; done = done; label = record { sum = 15; count = 5 } }; marks = marks; needed = list; out = out };
}

abbrev left₀ : Result Lent
left₀ = leaving 39 0 0 false (replicate 5 0) [] (query₁ ++ (0xEE ∷ []))

abbrev left₁ : Result Lent
left₁ = leaving 43 0 0 false (replicate 5 0) [] query₂

abbrev left₂ : Result Lent
left₂ = leaving 42 2 2 false (0 ∷ 1 ∷ 1 ∷ 0 ∷ 0 ∷ []) (starting 0x09 ++ starting 0x0A) query₃

abbrev left₃ : Result Lent
left₃ =
    leaving 0 3 5 true (1 ∷ 1 ∷ 1 ∷ 0 ∷ 0 ∷ [])
    (starting 0x06 ++ (starting 0x07 ++ (starting 0x08 ++ (starting 0x09 ++ starting 0x0A)))) []

abbrev at₀ : Place
at₀ = behind_call left₀ [] []

abbrev at₁ : Place
at₁ = behind_call left₁ (query₁ ∷ []) ((query₁, reply₁) ∷ [])

abbrev at₂ : Place
at₂ = behind_call left₂ (query₂ ∷ query₁ ∷ []) ((query₂, reply₂) ∷ (query₁, reply₁) ∷ [])

record Calls : Type 0 where
  other-query : same (write_message (first_query two (items ours))) query₁ ≡ false
  other-reply : same (answered_within unlimited theirs two query₁ (replicate 40 0)).lent reply₁ ≡ false
  opens : opened_within unlimited ours former lent ≡ left₀
  answers₁ : answered_within unlimited theirs (by to_first two) query₁ (replicate 39 0) ≡ answering 39 reply₁
  takes₁ : taken_within unlimited ours two reply₁ (lent_at at₀ take₁.handed) ≡ left₁
  answers₂ : answered_within unlimited theirs two query₂ (replicate 112 0) ≡ answering 112 reply₂
  takes₂ : taken_within unlimited ours two reply₂ (lent_at at₁ take₂.handed) ≡ left₂
  answers₃ : answered_within unlimited theirs two query₃ (replicate 106 0) ≡ answering 106 reply₃
  takes₃ : taken_within unlimited ours two reply₃ (lent_at at₂ take₃.handed) ≡ left₃

calls : Calls
unfolding read_message read_ranges read_range read_bound read_coded read_prefix read_payload read_of_mode read_ids read_varint read_digits read_bytes key big_endian id_space write_message tidy prepend is_skip spell_message spell_ranges spell_range spell_bound spell_prefix spell_payload spell_varint digits_before flatten sizes split shared shortest inner_bound fingerprint_ranges cut items ids_in zip_with little_endian total label_of low_bytes hashed fingerprint_of L.fingerprint digest blocks pad padding compress plus rounds round T₁ T₂ K schedule extend words next keep every rising key_of wrong_size not_rising within outside_limits some same overwrite each_range compare treat reply other_version answered_within wrong_buffers wrong_contents first_query opening_leaves begin opened_within next_query written unlisted marks_after unowned insert needed_after take_leaves conclude taken_within below_least limited sent_message other_label same_label
calls = record { other-query = refl; other-reply = refl; opens = refl; answers₁ = refl; takes₁ = refl; answers₂ = refl; takes₂ = refl; answers₃ = refl; takes₃ = refl }

pub only-former : OnlyFormer
only-former = (calls.other-query, calls.other-reply)

replied₁ : AnswersWithin ours theirs former two unlimited to_first query₁ reply₁
replied₁ = answers ours theirs former two unlimited to_first (replicate 39 0) calls.answers₁ refl

replied₂ : AnswersWithin ours theirs former two unlimited to_last query₂ reply₂
replied₂ = answers ours theirs former two unlimited to_last (replicate 112 0) calls.answers₂ refl

replied₃ : AnswersWithin ours theirs former two unlimited to_last query₃ reply₃
replied₃ = answers ours theirs former two unlimited to_last (replicate 106 0) calls.answers₃ refl

-- ---- what is asked

least : (k : ℕ) → 5 ≤ 2 * 2 ^ k → 2 ≤ k
least zero h = let z : 2 * 2 ^ 0 ≡ 2 = refl in absurd (omega arith)
least (suc zero) h = let z : 2 * 2 ^ 1 ≡ 4 = refl in absurd (omega arith)
least (suc (suc k)) h = omega arith

asked : {p : Place} → Takes ours theirs former two unlimited lent p → AskedUpTo p
unfolding items ids_in zip_with every same
asked ρ = record {
  ours_bytes = all_bytes ours.ids refl;
  theirs_bytes = all_bytes theirs.ids refl;
  once = one_time (items ours ++ items theirs) refl;
  smallest = record { enough = omega arith; least = least };
  opens = ap (λ (r : Result Lent). r.answer) calls.opens;
  takes = ρ;
}

-- ---- three takes in a row

is₀ : opening_within unlimited ours former lent ≡ at₀
is₀ = ap (λ (r : Result Lent). behind_call r [] []) calls.opens

is₁ : place₁ ≡ at₁
is₁ = behind ours theirs former two is₀ take₁ calls.takes₁

is₂ : place₂ ≡ at₂
is₂ = behind ours theirs former two is₁ take₂ calls.takes₂

pub comes_to : ComesTo
comes_to = behind ours theirs former two is₂ take₃ calls.takes₃

abbrev sent_at : Place → List (List ℕ)
sent_at p = p.sent

takes₁ : Takes ours theirs former two unlimited lent place₁
takes₁ =
    then_taken none take₁ 43 (answered ours theirs former two is₀ take₁ calls.takes₁) (last-sent (ap sent_at is₀)) (λ e. refl, (unlimited, to_first, replied₁))

takes₂ : Takes ours theirs former two unlimited lent place₂
takes₂ =
    then_taken takes₁ take₂ 42 (answered ours theirs former two is₁ take₂ calls.takes₂) (last-sent (ap sent_at is₁)) (λ e. refl, (unlimited, to_last, replied₂))

takes₃ : Takes ours theirs former two unlimited lent place₃
takes₃ =
    then_taken takes₂ take₃ 0 (answered ours theirs former two is₂ take₃ calls.takes₃) (last-sent (ap sent_at is₂)) (λ e. refl, (unlimited, to_last, replied₃))

pub across_the_change : AcrossTheChange
unfolding exceeds asked takes₁ takes₂ takes₃
across_the_change = (
  asked takes₃,
  ((query₂ ∷ query₁ ∷ [], ap sent_at is₂), ((query₁ ∷ [], ap sent_at is₁), (([], ap sent_at is₀), tt))),
  (((refl, (to_first, replied₁), λ rs e. refl), (to_last, replied₂), λ rs e. refl), (to_last, replied₃), λ rs e. refl),
  ap (λ (p : Place). p.session.done) is₂,
)

-- by the theorem, and not computed
pub done : place₃.session.done ≡ true
done =
    (owed ours theirs former two 2 unlimited across_the_change.0).ends across_the_change.2 across_the_change.1

-- ---- the first reply comes again

abbrev late_at₁ : Place
late_at₁ = behind_call left₁ (sent_at at₁) ((query₁, reply₁) ∷ at₁.handed)

abbrev late_at₂ : Place
late_at₂ = behind_call left₂ (sent_at late_at₁) ((query₂, reply₂) ∷ late_at₁.handed)

late_is₁ : late₁ ≡ late_at₁
late_is₁ = behind ours theirs former two is₁ take₁ calls.takes₁

late_is₂ : late₂ ≡ late_at₂
late_is₂ = behind ours theirs former two late_is₁ take₂ calls.takes₂

pub late_comes_to : LateComesTo
late_comes_to = behind ours theirs former two late_is₂ take₃ calls.takes₃

late-takes : Takes ours theirs former two unlimited lent late₃
late-takes =
    then_taken
    (then_taken
    (then_taken takes₁ take₁ 43 (answered ours theirs former two is₁ take₁ calls.takes₁) (rw (ap sent_at is₁) (Memᴰ.tail (Memᴰ.head refl))) (λ e. refl, (unlimited, to_first, replied₁)))
    take₂ 42 (answered ours theirs former two late_is₁ take₂ calls.takes₂) (last-sent (ap sent_at late_is₁)) (λ e. refl, (unlimited, to_last, replied₂)))
    take₃ 0 (answered ours theirs former two late_is₂ take₃ calls.takes₃) (last-sent (ap sent_at late_is₂)) (λ e. refl, (unlimited, to_last, replied₃))

pub late_asked : AskedUpTo late₃
late_asked = asked late-takes
