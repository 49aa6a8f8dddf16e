-- `largest` is what its name says; the bytes of a run, and of a run with its last fingerprint range.
use Prim.Native.Nat.{ℕ, zero, suc, ◌+◌, ◌/◌, ◌≤◌, ◌<◌}
use mathlib.Core.Path.{◌≡◌, refl, sym, ap, ◌∙◌}
use mathlib.Core.Bool.{Bool, true}
use mathlib.Core.List.{List, [], ◌∷◌, ◌++◌, append_assoc, append-nil, map, flatten}
use native.Mathlib.Nat.{mod-lt}
use native.Mathlib.Omega.{arith}
use lib.Dec.{leb, lit<}
use lib.ListN.{length, length-append}
use Rattle.sha256.specs.Fips180.{digest, bytes4, blocks, pad}
use Rattle.message.specs.Varint.{spell_varint, digits_before}
use Rattle.message.specs.Bound.{Bound, infinity, start, spell_prefix, spell_bound}
use Rattle.message.specs.Message.{fingerprint, Range, range, upper, spell_payload, spell_range, spell_ranges, spell_message}
use Rattle.message.specs.WellFormed.{Bytes, Sized}
use Rattle.message.proofs.Exact.{by_test}
use Rattle.theory.proofs.Tests.{clash}
use Rattle.label.specs.Label as L
use Rattle.table.specs.Table.{Item, within, ids_of}
use Rattle.cutting.specs.Cutting.{fingerprint_of}
use Rattle.limit.specs.Limit.{largest, run_end, closed, fits}

-- ---- the largest number that passes

module _ (test : ℕ → Bool) where
  pub largest-most : (n : ℕ) → largest test n ≤ n
  unfolding largest
  largest-most zero = omega arith
  largest-most (suc n) = by_test (test (suc n)) (λ e. rw e (omega arith)) (λ e. rw e (omega (arith, largest-most n)))

  -- it passes, if it is not 0
  pub largest-passes : (n : ℕ) → 0 < largest test n → test (largest test n) ≡ true
  unfolding largest
  largest-passes zero h = absurd (omega arith)
  largest-passes (suc n) h = by_test (test (suc n)) (λ e. rw e e) (λ e. rw e (largest-passes n (rw e at h)))

  -- and none that passes is larger
  pub largest-least : (n k : ℕ) → 0 < k → k ≤ n → test k ≡ true → k ≤ largest test n
  unfolding largest
  largest-least zero k h l e = absurd (omega arith)
  largest-least (suc n) k h l e =
      by_test (test (suc n))
      (λ t. rw t l)
      (λ t. rw t (largest-least n k h (below k n l (λ (z : k ≡ suc n). clash (rw z at e) t)) e))
    where
      below : (k m : ℕ) → k ≤ suc m → (k ≡ suc m → ⊥) → k ≤ m
      below k m l d = omega (arith, d)

-- ---- the bytes of a run

pub spell_behind : (x : Bound) (a b : List Range) → spell_ranges x (a ++ b) ≡ spell_ranges x a ++ spell_ranges (run_end x a) b
unfolding spell_ranges run_end
spell_behind x [] b = refl
spell_behind x (r ∷ a) b =
    ap (λ (l : List ℕ). spell_range x r ++ l) (spell_behind (upper r) a b)
    ∙ sym (append_assoc (spell_range x r) (spell_ranges (upper r) a) (spell_ranges (run_end (upper r) a) b))

pub end-behind : (x : Bound) (a : List Range) (r : Range) → run_end x (a ++ (r ∷ [])) ≡ upper r
unfolding run_end
end-behind x [] r = refl
end-behind x (s ∷ a) r = end-behind (upper s) a r

-- one range more
pub size-more : (run : List Range) (r : Range) → length (spell_message (run ++ (r ∷ []))) ≡ length (spell_message run) + length (spell_range (run_end start run) r)
unfolding spell_message spell_ranges
size-more run r = rw (spell_behind start run (r ∷ []), length-append, append-nil (spell_range (run_end start run) r)) (omega arith)

pub size-first : length (spell_message []) ≡ 1
unfolding spell_message spell_ranges
size-first = refl

-- ---- the last fingerprint range

words-bytes : (ws : List ℕ) → Bytes (flatten (map bytes4 ws))
unfolding flatten
words-bytes [] = tt
words-bytes (w ∷ ws) = (mod-lt _ (lit< tt), (mod-lt _ (lit< tt), (mod-lt _ (lit< tt), (mod-lt _ (lit< tt), words-bytes ws))))

pub fingerprint-sized : (is : List Item) → Sized 16 (fingerprint_of is)
unfolding fingerprint_of L.fingerprint digest flatten
fingerprint-sized is =
    let m = pad (L.hashed (L.label_of (ids_of is))) in
    let v = blocks (length m / 64) m in
    (refl, words-bytes (v.a ∷ v.b ∷ v.c ∷ v.d ∷ []))

-- 00 00 01 and the fingerprint, whatever the run's end
last-size : (x : Bound) (f : List ℕ) → length f ≡ 16 → length (spell_range x (range infinity (fingerprint f))) ≡ 19
unfolding spell_range spell_bound spell_prefix spell_payload spell_varint digits_before
last-size x f e = rw e refl

pub closed-size : (T : List Item) (run : List Range) → length (spell_message (closed T run)) ≡ length (spell_message run) + 19
unfolding closed
closed-size T run =
    let p = fingerprint_of (within (run_end start run) infinity T) in
    size-more run (range infinity (fingerprint p))
    ∙ ap (λ (k : ℕ). length (spell_message run) + k) (last-size (run_end start run) p (fingerprint-sized (within (run_end start run) infinity T)).0)

pub fits-size : (n : ℕ) (T : List Item) (run : List Range) → fits n T run ≡ leb (length (spell_message run) + 19) n
unfolding fits
fits-size n T run = rw (closed-size T run) refl
