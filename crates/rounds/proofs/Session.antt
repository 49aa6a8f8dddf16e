-- The session computed from the definitions, SHA-256 included, one call after another, and that it meets all that `Demand3` asks for.
use mathlib.Core.Path.{◌≡◌, refl, sym, ap, subst, ◌∙◌}
use mathlib.Core.Bool.{true, false}
use mathlib.Core.List.{List, [], ◌∷◌, ◌++◌, flatten, zip_with, Memᴰ}
use Prim.Native.Nat.{ℕ, zero, suc, ◌*◌, ◌^◌, ◌≤◌}
use native.Mathlib.Omega.{arith}
use lib.ListN.{take, replicate}
use Rattle.message.specs.Reader.{read_bytes}
use Rattle.message.specs.Varint.{read_digits, read_varint, digits_before, spell_varint}
use Rattle.message.specs.Code.{ids_in}
use Rattle.message.specs.Bound.{big_endian, id_space, key, read_prefix, read_coded, read_bound, spell_prefix, spell_bound}
use Rattle.message.specs.Message.{read_ids, read_of_mode, read_payload, read_range, read_ranges, read_message, spell_payload, spell_range, spell_ranges, spell_message}
use Rattle.message.specs.Meaning.{is_skip, prepend, tidy, write_message}
use Rattle.message.proofs.Exact.{differ}
use Rattle.theory.specs.Standard.{sizes}
use Rattle.theory.specs.Cutting.{split}
use Rattle.table.specs.Answer.{Answer, answer, refused}
use Rattle.table.specs.Lists.{keep, every, rising}
use Rattle.table.specs.Table.{key_of, items, wrong_size, not_rising, within}
use Rattle.sha256.specs.Fips180.{digest, blocks, pad, padding, compress, plus, rounds, round, T₁, T₂, K, schedule, extend, words, next}
use Rattle.label.specs.Label as L
use Rattle.label.specs.Label.{little_endian, total, label_of, low_bytes, hashed, same_label}
use Rattle.cutting.specs.Cutting.{fingerprint_of, shared, shortest, outside_limits, inner_bound, fingerprint_ranges, cut}
use Rattle.limit.specs.Limit.{below_least, limited, sent_message}
use Rattle.ends.specs.Lists.{some, same, overwrite}
use Rattle.ends.specs.Calls.{Result, each_range}
use Rattle.ends.specs.Responder.{compare, treat, reply, other_version, answered, answered_within}
use Rattle.ends.specs.Opener.{Lent, wrong_buffers, wrong_contents, other_label, first_query, opening_leaves, begin, opened, opened_within, next_query, written, unlisted, marks_after, unowned, insert, needed_after, take_leaves, conclude, taken_within}
use Rattle.ends.specs.Demand.{Take, Place, hands, behind_call, opening, call, run, Answers, HandedAnswers, Throughout}
use Rattle.ends.specs.Instance.{starting, two}
use Rattle.ends.proofs.Instance.{owed}
use Rattle.rounds.specs.Session.{ours, theirs, lent, query₁, reply₁, query₂, reply₂, take₁, take₂, take₃, take₄, take₅, takes, AskedHere, ComesTo}
use Rattle.rounds.proofs.Tests.{all_bytes, one_time}

-- ---- the calls, one after another, each from the place behind the one before

abbrev call_at : Place → Take → Result Lent
call_at = call ours theirs two two

abbrev behind : Place → Take → Result Lent → Place
behind p t r = behind_call r p.sent (hands r.answer t ++ p.handed)

abbrev answering : ℕ → List ℕ → Result (List ℕ)
answering n out = record { answer = answer n; lent = out }

-- nothing is marked or needed up to the last take
abbrev leaving : Answer ℕ → List ℕ → List ℕ → Result Lent
leaving a needed out = record {
  answer = a;
  lent = record { session = record { marked = 0; needed = 0; done = false; label = record { sum = 6; count = 3 } }; marks = 0 ∷ 0 ∷ 0 ∷ []; needed = needed; out = out };
}

abbrev at₀ : Place
at₀ = behind_call (leaving (answer 40) [] query₁) [] []

abbrev at₁ : Place
at₁ = behind at₀ take₁ (leaving (answer 43) [] (query₂ ++ replicate 57 0xDD))

abbrev at₂ : Place
at₂ = behind at₁ take₂ (leaving (refused 8) [] [])

abbrev at₃ : Place
at₃ = behind at₂ take₃ (leaving (answer 43) (replicate 32 0xCC) (query₂ ++ replicate 47 0xDD))

abbrev at₄ : Place
at₄ = behind at₃ take₄ (leaving (refused 11) (replicate 64 0xCC) [])

abbrev left₅ : Result Lent
left₅ = record {
  answer = answer 0;
  lent = record {
    session = record { marked = 1; needed = 3; done = true; label = record { sum = 6; count = 3 } };
    marks = 1 ∷ 0 ∷ 0 ∷ [];
    needed = starting 0x04 ++ (starting 0x05 ++ (starting 0x06 ++ replicate 32 0xCC));
    out = [];
  };
}

record Calls : Type 0 where
  opens : opened ours two lent ≡ leaving (answer 40) [] query₁
  answers₁ : answered theirs two query₁ (replicate 50 0) ≡ answering 41 (reply₁ ++ replicate 9 0)
  answers₂ : answered theirs two query₂ (replicate 150 0) ≡ answering 107 (reply₂ ++ replicate 43 0)
  takes₁ : call_at at₀ take₁ ≡ leaving (answer 43) [] (query₂ ++ replicate 57 0xDD)
  takes₂ : call_at at₁ take₂ ≡ leaving (refused 8) [] []
  takes₃ : call_at at₂ take₃ ≡ leaving (answer 43) (replicate 32 0xCC) (query₂ ++ replicate 47 0xDD)
  takes₄ : call_at at₃ take₄ ≡ leaving (refused 11) (replicate 64 0xCC) []
  takes₅ : call_at at₄ take₅ ≡ left₅

calls : Calls
unfolding read_message read_ranges read_range read_bound read_coded read_prefix read_payload read_of_mode read_ids read_varint read_digits read_bytes key big_endian id_space write_message tidy prepend is_skip spell_message spell_ranges spell_range spell_bound spell_prefix spell_payload spell_varint digits_before flatten sizes split shared shortest inner_bound fingerprint_ranges cut items ids_in zip_with little_endian total label_of low_bytes hashed fingerprint_of L.fingerprint digest blocks pad padding compress plus rounds round T₁ T₂ K schedule extend words next keep every rising key_of wrong_size not_rising within outside_limits some same overwrite each_range compare treat reply other_version answered_within wrong_buffers wrong_contents first_query opening_leaves begin opened_within next_query written unlisted marks_after unowned insert needed_after take_leaves conclude taken_within below_least limited sent_message other_label same_label
calls = record { opens = refl; answers₁ = refl; answers₂ = refl; takes₁ = refl; takes₂ = refl; takes₃ = refl; takes₄ = refl; takes₅ = refl }

-- ---- the places

is₀ : opening ours two lent ≡ at₀
is₀ = ap (λ (r : Result Lent). behind_call r [] []) calls.opens

pub comes_to : ComesTo
comes_to =
    ap (λ (p : Place). run ours theirs two two p takes) is₀
    ∙ ap (λ (r : Result Lent). run ours theirs two two (behind at₀ take₁ r) (take₂ ∷ take₃ ∷ take₄ ∷ take₅ ∷ [])) calls.takes₁
    ∙ ap (λ (r : Result Lent). run ours theirs two two (behind at₁ take₂ r) (take₃ ∷ take₄ ∷ take₅ ∷ [])) calls.takes₂
    ∙ ap (λ (r : Result Lent). run ours theirs two two (behind at₂ take₃ r) (take₄ ∷ take₅ ∷ [])) calls.takes₃
    ∙ ap (λ (r : Result Lent). run ours theirs two two (behind at₃ take₄ r) (take₅ ∷ [])) calls.takes₄
    ∙ ap (behind at₄ take₅) calls.takes₅

-- ---- what is asked

-- an unrefused answer, which wrote n bytes
answers : {n : ℕ} {q r left : List ℕ} (out : List ℕ) → answered theirs two q out ≡ answering n left → r ≡ take n left → Answers ours theirs two two q r
answers {n} out e is = record {
  out = out;
  size = n;
  unrefused = ap (λ (a : Result (List ℕ)). a.answer) e;
  written = is ∙ ap (λ (a : Result (List ℕ)). take n a.lent) (sym e);
}

-- one take more: what is asked of it at the place where the call was computed, and of the takes behind it
module _ (p : Place) (t : Take) (ts : List Take) {r : Result Lent} (is : call_at p t ≡ r) (later : HandedAnswers ours theirs two two (behind p t r) ts) where
  after : HandedAnswers ours theirs two two (behind p t (call_at p t)) ts
  after = rw is later

  by-refused : {k : ℕ} → r.answer ≡ refused k → HandedAnswers ours theirs two two p (t ∷ ts)
  by-refused {k} e =
      (λ n f. let z : ◌≡◌ {A = Answer ℕ} (refused k) (answer n) = sym e ∙ ap (λ (r : Result Lent). r.answer) (sym is) ∙ f in differ (cc), after)

  by-taken : Memᴰ t.query p.sent → Answers ours theirs two two t.query t.reply → HandedAnswers ours theirs two two p (t ∷ ts)
  by-taken m a = (λ n f. (m, a), after)

least : (k : ℕ) → 3 ≤ 2 * 2 ^ k → 1 ≤ k
least zero h = let z : 2 * 2 ^ 0 ≡ 2 = refl in absurd (omega arith)
least (suc k) h = omega arith

handed : HandedAnswers ours theirs two two at₀ takes
handed =
    let first : Answers ours theirs two two query₁ reply₁ = answers (replicate 50 0) calls.answers₁ refl in
    let second : Answers ours theirs two two query₂ reply₂ = answers (replicate 150 0) calls.answers₂ refl in
    by-taken at₀ take₁ (take₂ ∷ take₃ ∷ take₄ ∷ take₅ ∷ []) calls.takes₁
    (by-refused at₁ take₂ (take₃ ∷ take₄ ∷ take₅ ∷ []) calls.takes₂
    (by-taken at₂ take₃ (take₄ ∷ take₅ ∷ []) calls.takes₃
    (by-refused at₃ take₄ (take₅ ∷ []) calls.takes₄
    (by-taken at₄ take₅ [] calls.takes₅ tt (Memᴰ.head refl) second)
    refl)
    (Memᴰ.tail (Memᴰ.head refl)) first)
    refl)
    (Memᴰ.head refl) first

pub asked : AskedHere
unfolding items ids_in zip_with every same
asked = record {
  ours_bytes = all_bytes ours.ids refl;
  theirs_bytes = all_bytes theirs.ids refl;
  once = one_time (items ours ++ items theirs) refl;
  smallest = record { enough = omega arith; least = least };
  opens = ap (λ (r : Result Lent). r.answer) calls.opens;
  handed = subst (λ (p : Place). HandedAnswers ours theirs two two p takes) (sym is₀) handed;
}

-- what is owed at every place of the list
pub throughout : Throughout ours theirs two two 1 (opening ours two lent) takes
throughout = owed asked
