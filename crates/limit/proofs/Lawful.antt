-- What is sent is, to the theory, a shorter message.
use Prim.Native.Nat.{ℕ, zero, suc, ◌≤◌, ◌<◌}
use mathlib.Core.Path.{◌≡◌, refl, sym, ◌∙◌}
use mathlib.Core.Bool.{false}
use mathlib.Core.List.{List, [], ◌∷◌, ◌++◌, append_assoc, map}
use native.Mathlib.Omega.{arith}
use lib.ListN.{length, take, drop}
use Rattle.message.specs.Bound.{Bound, infinity, key, start}
use Rattle.message.specs.Message.{skip, fingerprint, ids, Range, range, upper, spell_message}
use Rattle.message.specs.Meaning.{is_skip, tidy, write_message}
use Rattle.message.proofs.Meaning.{Tidied, tidy_tidied}
use Rattle.theory.specs.Message as theory
use Rattle.theory.specs.Lawful.{LawfulReply, LawfulNext, LawfulOpening}
use Rattle.theory.proofs.Tests.{clash}
use Rattle.table.specs.Table.{Item, key_of, within}
use Rattle.cutting.specs.Cutting.{fingerprint_of}
use Rattle.cutting.proofs.Projection.{protocol, payload, project, key-start}
use Rattle.limit.specs.Limit.{Limit, unlimited, bytes, below_least, run_end, closed, longest, first_ids, part_of, shortened, limited}
use Rattle.limit.proofs.Runs.{size-first}
use Rattle.limit.proofs.Parts.{OwnItems, cut_bound, cut-ids, own-print}
use Rattle.limit.proofs.Reading.{end-append, Part, nothing, first, part_is}
use Rattle.limit.proofs.Sizes.{least-room, by_limit}
use Rattle.limit.proofs.Shortens.{Shortens, whole, keeps, lists, closes, shorter_reply, shorter_next, shorter_opening}

infinity-key : protocol.infinity ≡ key infinity
unfolding protocol
infinity-key = refl

module _ (T : List Item) (o : OwnItems T) where
  abbrev Shorter : ℕ → theory.Message (List ℕ) → theory.Message (List ℕ) → Type 0
  Shorter = Shortens protocol (map key_of T)

  -- a run that is kept
  run_shortens : (x : Bound) (k : ℕ) (rs more : List Range) → Shorter (key (run_end x (take k rs))) (project (drop k rs)) (project more)
      → Shorter (key x) (project rs) (project (take k rs ++ more))
  unfolding run_end project
  run_shortens x zero rs more w = w
  run_shortens x (suc k) [] more w = w
  run_shortens x (suc k) (range u p ∷ rs) more w = keeps (run_shortens u k rs more w)

  -- the last range
  last_shortens : (x : Bound) (m : theory.Message (List ℕ)) → Shorter (key x) m (project (range infinity (fingerprint (fingerprint_of (within x infinity T))) ∷ []))
  unfolding project payload
  last_shortens x m =
      rw (← own-print T o x infinity, ← infinity-key) closes

  -- and behind a list that was cut
  list_shortens : (x y : Bound) (k : ℕ) (m : theory.Message (List ℕ)) → suc k < length (within x y T)
      → let first = first_ids (within x y T) (suc k) in
      Shorter (key x) m (project (first ∷ range infinity (fingerprint (fingerprint_of (within (upper first) infinity T))) ∷ []))
  unfolding project payload first_ids
  list_shortens x y k m more =
      rw (← cut-ids T o x y k more, ← own-print T o (cut_bound T o x y k more) infinity, ← infinity-key) lists

  part_shortens : (run rest part : List Range) (m : theory.Message (List ℕ)) → Part T run rest part
      → Shorter (key (run_end start run)) m (project (part ++ (range infinity (fingerprint (fingerprint_of (within (run_end (run_end start run) part) infinity T))) ∷ [])))
  unfolding run_end
  part_shortens run rest part m nothing = last_shortens (run_end start run) m
  part_shortens run rest part m (first y l rs k e more) = list_shortens (run_end start run) y k m more

  from_start : (n : ℕ) (rs : List Range) → Shorter (key start) (project rs) (project (shortened n T rs))
  unfolding shortened closed
  from_start n rs =
      let k = longest n T rs in
      let part = part_of n T (take k rs) (drop k rs) in
      let last : Bound → Range = λ x. range infinity (fingerprint (fingerprint_of (within x infinity T))) in
      rw (end-append start (take k rs) part, append_assoc (take k rs) part (last (run_end (run_end start (take k rs)) part) ∷ []))
      (run_shortens start k rs (part ++ (last (run_end (run_end start (take k rs)) part) ∷ []))
      (part_shortens (take k rs) (drop k rs) part (project (drop k rs)) (part_is n T (take k rs) (drop k rs))))

  pub shortened_shortens : (n : ℕ) (rs : List Range) → Shorter 0 (project rs) (project (shortened n T rs))
  shortened_shortens n rs = rw key-start at (from_start n rs)

  -- What is sent is, to the theory, what would be sent without a limit or a shorter message.
  pub limited_shortens : (limit : Limit) (rs : List Range) → Shorter 0 (project (tidy rs)) (project (limited limit T rs))
  unfolding limited
  limited_shortens unlimited rs = whole
  limited_shortens (bytes n) rs = by_limit (λ l. Shorter 0 (project (tidy rs)) (project l)) n T rs (λ h. whole) (λ h. shortened_shortens n (tidy rs))

  -- So it is lawful wherever the message without a limit is.
  pub limited-reply : (limit : Limit) (rs : List Range) {q : theory.Message (List ℕ)}
      → LawfulReply protocol (map key_of T) q (project (tidy rs)) → LawfulReply protocol (map key_of T) q (project (limited limit T rs))
  limited-reply limit rs h = shorter_reply protocol (map key_of T) (limited_shortens limit rs) h

  pub limited-next : (limit : Limit) (rs : List Range) {r : theory.Message (List ℕ)}
      → LawfulNext protocol (map key_of T) r (project (tidy rs)) → LawfulNext protocol (map key_of T) r (project (limited limit T rs))
  limited-next limit rs h = shorter_next protocol (map key_of T) (limited_shortens limit rs) h

  pub limited-opening : (limit : Limit) (rs : List Range)
      → LawfulOpening protocol (map key_of T) (project (tidy rs)) → LawfulOpening protocol (map key_of T) (project (limited limit T rs))
  limited-opening limit rs h = shorter_opening protocol (map key_of T) (limited_shortens limit rs) h

-- ---- done is decided before any limit

-- tidied ranges are not skips only, save where there are none
tidied_skips : (rs : List Range) → 0 < length rs → Tidied rs → theory.skips_only (project rs) ≡ false
unfolding project payload theory.skips_only theory.is_skip is_skip
tidied_skips [] l h = absurd (omega arith)
tidied_skips (range u skip ∷ []) l h = clash refl h
tidied_skips (range u (fingerprint f) ∷ rs) l h = refl
tidied_skips (range u (ids is) ∷ rs) l h = refl
tidied_skips (range u skip ∷ r ∷ rs) l h = tidied_skips (r ∷ rs) (omega arith) h.1

closed-skips : (run : List Range) (y : Bound) (f : List ℕ) → theory.skips_only (project (run ++ (range y (fingerprint f) ∷ []))) ≡ false
unfolding project payload theory.skips_only theory.is_skip
closed-skips [] y f = refl
closed-skips (range u skip ∷ run) y f = closed-skips run y f
closed-skips (range u (fingerprint g) ∷ run) y f = refl
closed-skips (range u (ids is) ∷ run) y f = refl

shortened-skips : (n : ℕ) (T : List Item) (rs : List Range) → theory.skips_only (project (shortened n T rs)) ≡ false
unfolding shortened closed
shortened-skips n T rs =
    let k = longest n T rs in
    let run = take k rs ++ part_of n T (take k rs) (drop k rs) in
    closed-skips run infinity (fingerprint_of (within (run_end start run) infinity T))

some-ranges : (n : ℕ) (rs : List Range) → 20 ≤ n → n < length (spell_message rs) → 0 < length rs
some-ranges n [] room h = absurd (omega (arith, size-first))
some-ranges n (r ∷ rs) room h = omega arith

-- What is sent is skips only just where the message without a limit is.
pub limited-skips : (limit : Limit) (T : List Item) (rs : List Range) → below_least limit ≡ false
    → theory.skips_only (project (limited limit T rs)) ≡ theory.skips_only (project (tidy rs))
unfolding limited write_message
limited-skips unlimited T rs e = refl
limited-skips (bytes n) T rs e =
    by_limit (λ l. theory.skips_only (project l) ≡ theory.skips_only (project (tidy rs))) n T rs
    (λ h. refl)
    (λ h. shortened-skips n T (tidy rs) ∙ sym (tidied_skips (tidy rs) (some-ranges n (tidy rs) (omega (arith, least-room n e)) h) (tidy_tidied rs)))
