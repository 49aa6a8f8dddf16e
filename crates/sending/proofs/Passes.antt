-- Two passes over the same ranges stop at the same one: the second may be given just the room that the run was measured to take.
use Prim.Native.Nat.{ℕ, ◌≤◌, ◌<◌}
use mathlib.Core.Path.{◌≡◌, refl, sym, ap, ◌∙◌}
use mathlib.Core.List.{List, [], ◌∷◌, ◌++◌, append_assoc}
use native.Mathlib.Omega.{arith}
use lib.ListN.{length}
use Rattle.message.specs.Message.{Range}
use Rattle.message.specs.Meaning.{write_message}
use Rattle.writer.proofs.Fits.{longer}

-- the two places are the same, or one is before the other
data Places (a : List Range) (x : Range) (a' : List Range) (x' : Range) : Type 0 where
  same : a ≡ a' → x ≡ x' → Places a x a' x'
  before : (c : List Range) → a' ≡ a ++ (x ∷ c) → Places a x a' x'
  behind : (c : List Range) → a ≡ a' ++ (x' ∷ c) → Places a x a' x'

places : (a : List Range) (x : Range) (b a' : List Range) (x' : Range) (b' : List Range) → a ++ (x ∷ b) ≡ a' ++ (x' ∷ b') → Places a x a' x'
places [] x b [] x' b' e = same refl (cc)
places [] x b (r ∷ a') x' b' e = before a' (ap (λ (y : Range). y ∷ a') (let z : r ≡ x = cc in z))
places (r ∷ a) x b [] x' b' e = behind a (ap (λ (y : Range). y ∷ a) (let z : r ≡ x' = cc in z))
places (r ∷ a) x b (r' ∷ a') x' b' e = by (places a x b a' x' b' (let z : ◌≡◌ {A = List Range} (a ++ (x ∷ b)) (a' ++ (x' ∷ b')) = cc in z))
  where
    first : r ≡ r'
    first = cc

    by : Places a x a' x' → Places (r ∷ a) x (r' ∷ a') x'
    by (same p q) = same (rw (first, p) refl) q
    by (before c p) = before c (rw (first, p) refl)
    by (behind c p) = behind c (rw (first, p) refl)

-- `done` is the longest beginning that n bytes hold, so there is one
pub one_stop : (n : ℕ) (a : List Range) (x : Range) (b a' : List Range) (x' : Range) (b' : List Range) → a ++ (x ∷ b) ≡ a' ++ (x' ∷ b')
    → length (write_message a) ≤ n → n < length (write_message (a ++ (x ∷ []))) → length (write_message a') ≤ n → n < length (write_message (a' ++ (x' ∷ []))) → (a ≡ a') × (x ≡ x')
one_stop n a x b a' x' b' e s o s' o' = by (places a x b a' x' b' e)
  where
    by : Places a x a' x' → (a ≡ a') × (x ≡ x')
    by (same p q) = (p, q)
    by (before c p) =
        let l = longer (a ++ (x ∷ [])) c in
        let m : length (write_message a') ≡ length (write_message ((a ++ (x ∷ [])) ++ c)) = ap (λ (rs : List Range). length (write_message rs)) (p ∙ sym (append_assoc a (x ∷ []) c)) in
        absurd (omega arith)
    by (behind c p) =
        let l = longer (a' ++ (x' ∷ [])) c in
        let m : length (write_message a) ≡ length (write_message ((a' ++ (x' ∷ [])) ++ c)) = ap (λ (rs : List Range). length (write_message rs)) (p ∙ sym (append_assoc a' (x' ∷ []) c)) in
        absurd (omega arith)
