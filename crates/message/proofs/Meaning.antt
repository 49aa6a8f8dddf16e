-- What is written reads back tidied, and tidying keeps the payload at every place.
use Prim.Native.Nat.{ℕ}
use mathlib.Core.Path.{◌≡◌, refl, ap, ◌∙◌}
use mathlib.Core.Bool.{false, cond, ◌&&◌}
use mathlib.Core.List.{List, [], ◌∷◌}
use native.Mathlib.Omega.{arith}
use lib.Dec.{ltb}
use borrow.Author.Tests.{ltb-true, lt-ltb}
use Rattle.message.specs.Reader.{read}
use Rattle.message.specs.Bound.{Bound, key, start}
use Rattle.message.specs.Message.{skip, fingerprint, ids, Range, range, read_message}
use Rattle.message.specs.Meaning.{payload_at, is_skip, prepend, tidy, write_message}
use Rattle.message.specs.WellFormed.{Rising, WellFormed}
use Rattle.message.proofs.Exact.{by_test}
use Rattle.message.proofs.Messages.{message-there}

prepend-rises : (lower : Bound) (r : Range) (rs : List Range) → Rising lower (r ∷ rs) → Rising lower (prepend r rs)
unfolding prepend is_skip
prepend-rises lower (range u skip) [] h = tt
prepend-rises lower (range u (fingerprint f)) [] h = h
prepend-rises lower (range u (ids l)) [] h = h
prepend-rises lower (range u skip) (range v skip ∷ rs) h = (omega arith, h.3.1, h.3.2, h.3.3)
prepend-rises lower (range u skip) (range v (fingerprint f) ∷ rs) h = h
prepend-rises lower (range u skip) (range v (ids l) ∷ rs) h = h
prepend-rises lower (range u (fingerprint f)) (s ∷ rs) h = h
prepend-rises lower (range u (ids l)) (s ∷ rs) h = h

pub tidy-rises : (lower : Bound) (rs : List Range) → Rising lower rs → Rising lower (tidy rs)
unfolding tidy
tidy-rises lower [] h = tt
tidy-rises lower (range u p ∷ rs) h = prepend-rises lower (range u p) (tidy rs) (h.0, h.1, h.2, tidy-rises u rs h.3)

prepend_at : (lower : Bound) (r : Range) (rs : List Range) (k : ℕ) → Rising lower (r ∷ rs) → payload_at (prepend r rs) k ≡ payload_at (r ∷ rs) k
unfolding prepend is_skip payload_at
prepend_at lower (range u skip) [] k h = by_test (ltb k (key u)) (λ e. rw e) (λ e. rw e)
prepend_at lower (range u (fingerprint f)) [] k h = refl
prepend_at lower (range u (ids l)) [] k h = refl
prepend_at lower (range u skip) (range v skip ∷ rs) k h =
    by_test (ltb k (key u)) (λ e. rw (e, lt-ltb k (key v) (omega (arith, ltb-true k (key u) e)))) (λ e. rw e)
prepend_at lower (range u skip) (range v (fingerprint f) ∷ rs) k h = refl
prepend_at lower (range u skip) (range v (ids l) ∷ rs) k h = refl
prepend_at lower (range u (fingerprint f)) (s ∷ rs) k h = refl
prepend_at lower (range u (ids l)) (s ∷ rs) k h = refl

pub tidy_at : (lower : Bound) (rs : List Range) (k : ℕ) → Rising lower rs → payload_at (tidy rs) k ≡ payload_at rs k
unfolding tidy payload_at
tidy_at lower [] k h = refl
tidy_at lower (range u p ∷ rs) k h =
    prepend_at lower (range u p) (tidy rs) k (h.0, h.1, h.2, tidy-rises u rs h.3) ∙ ap (cond (ltb k (key u)) p) (tidy_at u rs k h.3)

-- no skip before a skip, and none at the end
abbrev pub Tidied : List Range → Type 0
Tidied [] = Unit {0}
Tidied (r ∷ []) = is_skip r ≡ false
Tidied (r ∷ s ∷ rs) = (is_skip r && is_skip s ≡ false) × Tidied (s ∷ rs)

prepend_tidied : (r : Range) (rs : List Range) → Tidied rs → Tidied (prepend r rs)
unfolding prepend
prepend_tidied r [] h = by_test (is_skip r) (λ e. rw e tt) (λ e. rw e e)
prepend_tidied r (s ∷ rs) h = by_test (is_skip r && is_skip s) (λ e. rw e h) (λ e. rw e (e, h))

pub tidy_tidied : (rs : List Range) → Tidied (tidy rs)
unfolding tidy
tidy_tidied [] = tt
tidy_tidied (r ∷ rs) = prepend_tidied r (tidy rs) (tidy_tidied rs)

-- The writer's bytes read back as the tidied ranges, which are well formed, have no skip to spare and say the same of every place.
pub meaning : (rs : List Range) → WellFormed rs
    → (read_message (write_message rs) ≡ read (tidy rs) []) × WellFormed (tidy rs) × Tidied (tidy rs) × ((k : ℕ) → payload_at (tidy rs) k ≡ payload_at rs k)
unfolding write_message
meaning rs h = (message-there (tidy rs) (tidy-rises start rs h), tidy-rises start rs h, tidy_tidied rs, λ k. tidy_at start rs k h)
