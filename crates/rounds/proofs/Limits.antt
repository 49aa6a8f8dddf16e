-- The session with byte limits computed from the definitions, SHA-256 included, one call after another, and that it meets all that `Demand3Mixed` asks for.
use mathlib.Core.Path.{◌≡◌, refl, sym, ap, ◌∙◌}
use mathlib.Core.Bool.{Bool, true, false}
use mathlib.Core.List.{List, [], ◌∷◌, ◌++◌, flatten, zip_with}
use Prim.Native.Nat.{ℕ}
use native.Mathlib.Omega.{arith}
use lib.ListN.{replicate}
use Rattle.message.specs.Reader.{Outcome, read, read_bytes}
use Rattle.message.specs.Varint.{read_digits, read_varint, digits_before, spell_varint}
use Rattle.message.specs.Code.{ids_in}
use Rattle.message.specs.Bound.{infinity, finite, big_endian, id_space, key, read_prefix, read_coded, read_bound, spell_prefix, spell_bound}
use Rattle.message.specs.Message.{skip, ids, Range, range, read_ids, read_of_mode, read_payload, read_range, read_ranges, read_message, spell_payload, spell_range, spell_ranges, spell_message}
use Rattle.message.specs.Meaning.{is_skip, prepend, tidy, write_message}
use Rattle.theory.specs.Rounds.{to_first, to_last}
use Rattle.theory.specs.Standard.{sizes}
use Rattle.theory.specs.Cutting.{split}
use Rattle.table.specs.Answer.{answer}
use Rattle.table.specs.Lists.{keep, every, rising}
use Rattle.table.specs.Table.{key_of, items, wrong_size, not_rising, within}
use Rattle.sha256.specs.Fips180.{digest, blocks, pad, padding, compress, plus, rounds, round, T₁, T₂, K, schedule, extend, words, next}
use Rattle.label.specs.Label as L
use Rattle.label.specs.Label.{little_endian, total, label_of, low_bytes, hashed, same_label}
use Rattle.cutting.specs.Cutting.{fingerprint_of, shared, shortest, outside_limits, inner_bound, fingerprint_ranges, cut}
use Rattle.limit.specs.Limit.{unlimited, bytes, below_least, exceeds, largest, run_end, closed, fits, longest, first_ids, most_ids, part_of, shortened, limited, sent_message}
use Rattle.ends.specs.Lists.{some, same, overwrite}
use Rattle.ends.specs.Calls.{Result, each_range}
use Rattle.ends.specs.Responder.{compare, treat, reply, other_version, answered_within}
use Rattle.ends.specs.Opener.{Lent, wrong_buffers, wrong_contents, other_label, first_query, opening_leaves, begin, opened_within, next_query, written, unlisted, marks_after, unowned, insert, needed_after, take_leaves, conclude, taken_within}
use Rattle.ends.specs.Demand.{Place, behind_call}
use Rattle.ends.specs.Takes.{lent_at, none, then_taken}
use Rattle.ends.specs.Mixed.{by, opening_within, WholeQuery, Takes}
use Rattle.ends.specs.Instance.{starting, two}
use Rattle.rounds.specs.Limits.{ids_from, ours, theirs, long, lent, query₁, reply₁, query₂, reply₂, limit, take₁, take₂, place₁, place₂, AskedUpTo, First, Second, ComesTo}
use Rattle.rounds.proofs.Tests.{all_bytes, one_time}
use Rattle.rounds.proofs.Mixed.{last-sent, answering, answers, behind, answered, owed}

-- ---- the calls, one after another, each from the place behind the one before

abbrev leaving : ℕ → ℕ → ℕ → Bool → List ℕ → List ℕ → List ℕ → Result Lent
leaving n marked needed done marks list out = record {
  answer = answer n;
  lent = record { session = record { marked = marked; needed = needed; done = done; label = record { sum = 2080896; count = 128 } }; marks = marks; needed = list; out = out };
}

abbrev left₀ : Result Lent
left₀ = leaving 4090 0 0 false (replicate 128 0) [] (query₁ ++ replicate 6 0xEE)

abbrev left₁ : Result Lent
left₁ = leaving 47 126 0 false (replicate 5 1 ++ (0 ∷ (replicate 121 1 ++ (0 ∷ [])))) [] query₂

abbrev left₂ : Result Lent
left₂ = leaving 0 127 3 true (replicate 5 1 ++ (0 ∷ replicate 122 1)) (starting 0x02 ++ (starting 0x03 ++ starting 0x04)) []

abbrev at₀ : Place
at₀ = behind_call left₀ [] []

abbrev at₁ : Place
at₁ = behind_call left₁ at₀.sent ((query₁, reply₁) ∷ [])

-- the ranges of the second reply
abbrev ranges₂ : List Range
ranges₂ =
    range (finite 5 (0x01 ∷ 0x7F ∷ [])) skip
    ∷ range (finite 7 (0x04 ∷ [])) (ids (starting 0x02 ∷ starting 0x03 ∷ []))
    ∷ range infinity (ids (starting 0x04 ∷ [])) ∷ []

record Calls : Type 0 where
  cut_short : exceeds limit (write_message (first_query long (items ours))) ≡ true
  opens : opened_within limit ours long lent ≡ left₀
  answers₁ : answered_within limit theirs (by to_first two) query₁ (replicate 78 0) ≡ answering 78 reply₁
  takes₁ : taken_within unlimited ours long reply₁ (lent_at at₀ take₁.handed) ≡ left₁
  answers₂ : answered_within (bytes 5000) theirs two query₂ (replicate 111 0) ≡ answering 111 reply₂
  -- the same bytes without a limit
  whole₂ : answered_within unlimited theirs two query₂ (replicate 111 0) ≡ answering 111 reply₂
  takes₂ : taken_within limit ours long reply₂ (lent_at at₁ take₂.handed) ≡ left₂
  reads₂ : read_message reply₂ ≡ read ranges₂ []
  skips₂ : exceeds limit (write_message (next_query long (items ours) ranges₂)) ≡ false

calls : Calls
unfolding read_message read_ranges read_range read_bound read_coded read_prefix read_payload read_of_mode read_ids read_varint read_digits read_bytes key big_endian id_space write_message tidy prepend is_skip spell_message spell_ranges spell_range spell_bound spell_prefix spell_payload spell_varint digits_before flatten sizes split shared shortest inner_bound fingerprint_ranges cut items ids_in zip_with little_endian total label_of low_bytes hashed fingerprint_of L.fingerprint digest blocks pad padding compress plus rounds round T₁ T₂ K schedule extend words next keep every rising key_of wrong_size not_rising within outside_limits some same overwrite each_range compare treat reply other_version answered_within wrong_buffers wrong_contents first_query opening_leaves begin opened_within next_query written unlisted marks_after unowned insert needed_after take_leaves conclude taken_within below_least exceeds largest run_end closed fits longest first_ids most_ids part_of shortened limited sent_message ids_from other_label same_label
calls = record {
  cut_short = refl;
  opens = refl;
  answers₁ = refl;
  takes₁ = refl;
  answers₂ = refl;
  whole₂ = refl;
  takes₂ = refl;
  reads₂ = refl;
  skips₂ = refl;
}

-- ---- the places

is₀ : opening_within limit ours long lent ≡ at₀
is₀ = ap (λ (r : Result Lent). behind_call r [] []) calls.opens

is₁ : place₁ ≡ at₁
is₁ = behind ours theirs long two is₀ take₁ calls.takes₁

pub comes_to : ComesTo
unfolding ids_from
comes_to = behind ours theirs long two is₁ take₂ calls.takes₂

-- ---- what is asked

sent₀ : (opening_within limit ours long lent).sent ≡ query₁ ∷ []
unfolding ids_from
sent₀ = ap (λ (p : Place). p.sent) is₀

sent₁ : place₁.sent ≡ query₂ ∷ query₁ ∷ []
unfolding ids_from
sent₁ = ap (λ (p : Place). p.sent) is₁

asked : {p : Place} → Takes ours theirs long two limit lent p → AskedUpTo p
unfolding items ids_in zip_with every same ids_from
asked ρ = record {
  ours_bytes = all_bytes ours.ids refl;
  theirs_bytes = all_bytes theirs.ids refl;
  once = one_time (items ours ++ items theirs) refl;
  smallest = record { enough = omega arith; least = λ k h. omega arith };
  opens = ap (λ (r : Result Lent). r.answer) calls.opens;
  takes = ρ;
}

takes₁ : Takes ours theirs long two limit lent place₁
takes₁ =
    then_taken none take₁ 47 (answered ours theirs long two is₀ take₁ calls.takes₁) (last-sent sent₀)
    (λ e. refl, (limit, to_first, answers ours theirs long two limit to_first (replicate 78 0) calls.answers₁ refl))

takes₂ : Takes ours theirs long two limit lent place₂
takes₂ =
    then_taken takes₁ take₂ 0 (answered ours theirs long two is₁ take₂ calls.takes₂) (last-sent sent₁)
    (λ e. refl, (bytes 5000, to_last, answers ours theirs long two (bytes 5000) to_last (replicate 111 0) calls.answers₂ refl))

-- as whatever ranges the second reply is read, it is these
whole-query₂ : WholeQuery ours theirs long two take₂
whole-query₂ rs e =
    let z : ◌≡◌ {A = Outcome (List Range)} (read rs []) (read ranges₂ []) = sym e ∙ calls.reads₂ in
    let same : rs ≡ ranges₂ = cc in rw same calls.skips₂

pub first : First
unfolding asked takes₁
first = (asked takes₁, (([], sent₀), tt), calls.cut_short, ap (λ (p : Place). p.session.done) is₁)

pub second : Second
unfolding exceeds asked takes₁ takes₂
second = (
  asked takes₂,
  ((query₁ ∷ [], sent₁), tt),
  ((λ rs e. refl), (to_last, answers ours theirs long two unlimited to_last (replicate 111 0) calls.whole₂ refl), whole-query₂),
)

-- by the theorem, and not computed
pub done : place₂.session.done ≡ true
done = (owed ours theirs long two 0 limit second.0).ends second.2 second.1
