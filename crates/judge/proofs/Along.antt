-- Messages of the theory: what is made of a range stands where it stood, also when tidied.
use mathlib.Core.Path.{◌≡◌, refl, ap, ◌∙◌}
use mathlib.Core.List.{[], ◌∷◌, ◌++◌}
use Prim.Native.Nat.{ℕ, ◌≤◌, ◌<◌}
use native.Mathlib.Omega.{arith}
use lib.Dec.{ltb}
use borrow.Author.Tests.{ltb-true, ltb-false}
use Rattle.theory.specs.Message.{Payload, skip, fingerprint, ids, range, Message, Stands, here, there, payload_at, is_skip, prepend, tidy}
use Rattle.theory.specs.Ends.{each_range}
use Rattle.theory.proofs.Tests.{by_test}
use Rattle.theory.proofs.Messages.{Rises, Spans, payload-left, payload_right}

module _ {F : Type 0} where
  -- ---- messages put together

  stands-left : (l : ℕ) (m m' : Message F) {x y : ℕ} {p : Payload F} → Stands l m x y p → Stands l (m ++ m') x y p
  stands-left l [] m' st = elim st [ ]
  stands-left l (range u o ∷ m) m' here = here
  stands-left l (range u o ∷ m) m' (there st) = there (stands-left u m m' st)

  stands_right : (l : ℕ) (m m' : Message F) (z : ℕ) {x y : ℕ} {p : Payload F} → Spans l m z → Stands z m' x y p → Stands l (m ++ m') x y p
  stands_right l [] m' z h st = rw h st
  stands_right l (range u o ∷ m) m' z h st = there (stands_right u m m' z h.1 st)

  stands-above : (l : ℕ) (m : Message F) {x y : ℕ} {p : Payload F} → Rises l m → Stands l m x y p → l ≤ x
  stands-above l [] h st = elim st [ ]
  stands-above l (range u o ∷ m) h here = omega arith
  stands-above l (range u o ∷ m) h (there st) = let z = h.0 in omega (arith, stands-above u m h.1 st)

  pub stands_up : (l : ℕ) (m : Message F) {x y : ℕ} {p : Payload F} → Rises l m → Stands l m x y p → x < y
  stands_up l [] h st = elim st [ ]
  stands_up l (range u o ∷ m) h here = h.0
  stands_up l (range u o ∷ m) h (there st) = stands_up u m h.1 st

  -- ---- what is made along a message

  module _ (f : ℕ → ℕ → Payload F → Message F) (spans : (x y : ℕ) (p : Payload F) → x < y → Spans x (f x y p) y) where
    -- at a place of the range from x to y stands what was made of that range
    pub made_at : (l : ℕ) (m : Message F) {x y : ℕ} {p : Payload F} (k : ℕ) → Rises l m → Stands l m x y p → x ≤ k → k < y → payload_at (each_range f l m) k ≡ payload_at (f x y p) k
    unfolding each_range
    made_at l [] k h st a b = elim st [ ]
    made_at l (range u o ∷ m) k h here a b = payload-left l (f l u o) (each_range f u m) u k (spans l u o h.0) a b
    made_at l (range u o ∷ m) k h (there st) a b =
        payload_right l (f l u o) (each_range f u m) u k (spans l u o h.0) (omega (arith, stands-above u m h.1 st)) ∙ made_at u m k h.1 st a b

    pub made-stands : (l : ℕ) (m : Message F) {x y lo up : ℕ} {p o : Payload F} → Rises l m → Stands l m x y p → Stands x (f x y p) lo up o → Stands l (each_range f l m) lo up o
    unfolding each_range
    made-stands l [] h st s = elim st [ ]
    made-stands l (range u o ∷ m) h here s = stands-left l (f l u o) (each_range f u m) s
    made-stands l (range u o ∷ m) h (there st) s = stands_right l (f l u o) (each_range f u m) u (spans l u o h.0) (made-stands u m h.1 st s)

    -- where skip gives skip, it does so behind the last range too
    pub made-skip : ((x y k : ℕ) → payload_at (f x y skip) k ≡ skip) → (l : ℕ) (m : Message F) (k : ℕ) → Rises l m → l ≤ k → payload_at m k ≡ skip → payload_at (each_range f l m) k ≡ skip
    unfolding each_range payload_at
    made-skip none l [] k h a e = refl
    made-skip none l (range u o ∷ m) k h a e =
        by_test (ltb k u)
        (λ t. let d : o ≡ skip = rw t at e in
        payload-left l (f l u o) (each_range f u m) u k (spans l u o h.0) a (ltb-true k u t) ∙ ap (λ (o : Payload F). payload_at (f l u o) k) d ∙ none l u k)
        (λ t. payload_right l (f l u o) (each_range f u m) u k (spans l u o h.0) (ltb-false k u t) ∙ made-skip none u m k h.1 (ltb-false k u t) (rw t at e))

  -- ---- tidying

  prepend_keeps : (l u : ℕ) (o : Payload F) (m : Message F) {x y : ℕ} {p : Payload F} → (p ≡ skip → ⊥) → Stands l (range u o ∷ m) x y p → Stands l (prepend (range u o) m) x y p
  unfolding prepend is_skip
  prepend_keeps l u skip [] n here = absurd (n refl)
  prepend_keeps l u skip [] n (there st) = elim st [ ]
  prepend_keeps l u (fingerprint f) [] n st = st
  prepend_keeps l u (ids is) [] n st = st
  prepend_keeps l u skip (range v skip ∷ m) n here = absurd (n refl)
  prepend_keeps l u skip (range v skip ∷ m) n (there here) = absurd (n refl)
  prepend_keeps l u skip (range v skip ∷ m) n (there (there st)) = there st
  prepend_keeps l u skip (range v (fingerprint f) ∷ m) n st = st
  prepend_keeps l u skip (range v (ids is) ∷ m) n st = st
  prepend_keeps l u (fingerprint f) (s ∷ m) n st = st
  prepend_keeps l u (ids is) (s ∷ m) n st = st

  -- what is no skip stands as before
  pub tidy_keeps : (l : ℕ) (m : Message F) {x y : ℕ} {p : Payload F} → (p ≡ skip → ⊥) → Stands l m x y p → Stands l (tidy m) x y p
  unfolding tidy
  tidy_keeps l [] n st = elim st [ ]
  tidy_keeps l (range u o ∷ m) n here = prepend_keeps l u o (tidy m) n here
  tidy_keeps l (range u o ∷ m) n (there st) = prepend_keeps l u o (tidy m) n (there (tidy_keeps u m n st))
