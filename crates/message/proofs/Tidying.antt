-- Ranges with one more behind them: what `tidy` and the spelling make of them.
use Prim.Native.Nat.{ℕ}
use mathlib.Core.Path.{◌≡◌, refl, sym, ap, ◌∙◌}
use mathlib.Core.Bool.{true, false, cond, ◌&&◌}
use mathlib.Core.List.{List, [], ◌∷◌, ◌++◌, append-nil, append_assoc}
use Rattle.message.specs.Bound.{Bound, start}
use Rattle.message.specs.Message.{Range, upper, spell_range, spell_ranges, spell_message}
use Rattle.message.specs.Meaning.{is_skip, prepend, tidy, write_message}
use Rattle.message.specs.Private.{waiting, last_upper}
use Rattle.message.proofs.Exact.{differ, by_test}

pub tidy-skip : (rs : List Range) (x : Range) → is_skip x ≡ true → tidy (rs ++ (x ∷ [])) ≡ tidy rs
unfolding tidy
tidy-skip [] x e = unfold prepend in rw e
tidy-skip (r ∷ rs) x e = ap (prepend r) (tidy-skip rs x e)

-- where nothing is left, all were skips and the last one waits
nothing : (C : Type 0) (r : Range) (l : List Range) → (l ≡ [] → C) → prepend r l ≡ [] → C
unfolding prepend
nothing C r [] k g = k refl
nothing C r (y ∷ l) k g = by_test (is_skip r && is_skip y) (λ t. differ (let z = (rw t at g) in cc)) (λ t. differ (let z = (rw t at g) in cc))

idle : (C : Type 0) (r : Range) (rs : List Range) → tidy (r ∷ rs) ≡ [] → ((z : Range) → is_skip z ≡ true → waiting (r ∷ rs) ≡ z ∷ [] → C) → C
unfolding tidy waiting
idle C r [] e k = unfold prepend in by_test (is_skip r) (λ t. k r t (rw t)) (λ t. differ (let z = (rw t at e) in cc))
idle C r (s ∷ rs) e k = nothing C r (tidy (s ∷ rs)) (λ f. idle C s rs f k) e

prepend-one : (r x : Range) → is_skip x ≡ false → prepend r (x ∷ []) ≡ r ∷ x ∷ []
unfolding prepend
prepend-one r x e = rw e (by_test (is_skip r) (λ t. rw t) (λ t. rw t))

prepend_all : (r s : Range) (rs w : List Range) → prepend r ((s ∷ rs) ++ w) ≡ prepend r (s ∷ rs) ++ w
unfolding prepend
prepend_all r s rs w = by_test (is_skip r && is_skip s) (λ t. rw t) (λ t. rw t)

prepend-wait : (r z : Range) (w : List Range) → is_skip z ≡ true → prepend r (z ∷ w) ≡ prepend r [] ++ (z ∷ w)
unfolding prepend
prepend-wait r z w e = rw e (by_test (is_skip r) (λ t. rw t) (λ t. rw t))

prepend-first : (r x : Range) → is_skip x ≡ false → prepend r (x ∷ []) ≡ prepend r [] ++ (waiting (r ∷ []) ++ (x ∷ []))
unfolding waiting
prepend-first r x e = prepend-one r x e ∙ (unfold prepend in by_test (is_skip r) (λ t. rw t) (λ t. rw t))

behind : (r s x : Range) (rs l : List Range) → tidy (s ∷ rs) ≡ l → prepend r (l ++ (waiting (s ∷ rs) ++ (x ∷ []))) ≡ prepend r l ++ (waiting (r ∷ s ∷ rs) ++ (x ∷ []))
unfolding waiting
behind r s x rs [] f = idle _ s rs f (λ z t w. rw w (prepend-wait r z (x ∷ []) t))
behind r s x rs (y ∷ l) f = prepend_all r y l (waiting (s ∷ rs) ++ (x ∷ []))

tidy_one : (x : Range) → is_skip x ≡ false → tidy (x ∷ []) ≡ x ∷ []
unfolding tidy prepend
tidy_one x e = rw e

tidy-cons : (r : Range) (rs : List Range) → tidy (r ∷ rs) ≡ prepend r (tidy rs)
unfolding tidy
tidy-cons r rs = refl

tidy-none : tidy [] ≡ []
unfolding tidy
tidy-none = refl

tidy-two : (r x : Range) → is_skip x ≡ false → tidy (r ∷ x ∷ []) ≡ tidy (r ∷ []) ++ (waiting (r ∷ []) ++ (x ∷ []))
tidy-two r x e =
    tidy-cons r (x ∷ []) ∙ ap (prepend r) (tidy_one x e) ∙ prepend-first r x e ∙ ap (λ (l : List Range). l ++ (waiting (r ∷ []) ++ (x ∷ []))) (ap (prepend r) (sym tidy-none) ∙ sym (tidy-cons r []))

none_waits : waiting [] ≡ []
unfolding waiting
none_waits = refl

-- A range that is no skip is tidied behind those before it and the skip that waited.
pub tidy-more : (rs : List Range) (x : Range) → is_skip x ≡ false → tidy (rs ++ (x ∷ [])) ≡ tidy rs ++ (waiting rs ++ (x ∷ []))
tidy-more [] x e = rw (none_waits, tidy-none) (tidy_one x e)
tidy-more (r ∷ []) x e = tidy-two r x e
tidy-more (r ∷ s ∷ rs) x e =
    tidy-cons r ((s ∷ rs) ++ (x ∷ [])) ∙ ap (prepend r) (tidy-more (s ∷ rs) x e) ∙ behind r s x rs (tidy (s ∷ rs)) refl ∙ ap (λ (l : List Range). l ++ (waiting (r ∷ s ∷ rs) ++ (x ∷ []))) (sym (tidy-cons r (s ∷ rs)))

pub waiting-more : (rs : List Range) (x : Range) → waiting (rs ++ (x ∷ [])) ≡ cond (is_skip x) (x ∷ []) []
unfolding waiting
waiting-more [] x = refl
waiting-more (r ∷ []) x = refl
waiting-more (r ∷ s ∷ rs) x = waiting-more (s ∷ rs) x

pub last_more : (lower : Bound) (a : List Range) (x : Range) → last_upper lower (a ++ (x ∷ [])) ≡ upper x
unfolding last_upper
last_more lower [] x = refl
last_more lower (r ∷ a) x = last_more (upper r) a x

-- ---- one range more, spelled

spell_behind : (lower : Bound) (a b : List Range) → spell_ranges lower (a ++ b) ≡ spell_ranges lower a ++ spell_ranges (last_upper lower a) b
unfolding spell_ranges last_upper
spell_behind lower [] b = refl
spell_behind lower (r ∷ a) b = ap (λ (l : List ℕ). spell_range lower r ++ l) (spell_behind (upper r) a b) ∙ sym (append_assoc (spell_range lower r) (spell_ranges (upper r) a) (spell_ranges (last_upper (upper r) a) b))

pub spell_one : (lower : Bound) (x : Range) → spell_ranges lower (x ∷ []) ≡ spell_range lower x
unfolding spell_ranges
spell_one lower x = append-nil (spell_range lower x)

pub spell_two : (lower : Bound) (z x : Range) → spell_ranges lower (z ∷ x ∷ []) ≡ spell_range lower z ++ spell_range (upper z) x
unfolding spell_ranges
spell_two lower z x = ap (λ (l : List ℕ). spell_range lower z ++ l) (append-nil (spell_range (upper z) x))

pub write_skip : (rs : List Range) (x : Range) → is_skip x ≡ true → write_message (rs ++ (x ∷ [])) ≡ write_message rs
unfolding write_message
write_skip rs x e = ap spell_message (tidy-skip rs x e)

pub write_more_lem : (rs : List Range) (x : Range) → is_skip x ≡ false → write_message (rs ++ (x ∷ [])) ≡ write_message rs ++ spell_ranges (last_upper start (tidy rs)) (waiting rs ++ (x ∷ []))
unfolding write_message spell_message
write_more_lem rs x e = ap (λ (l : List ℕ). 0x61 ∷ l) (ap (spell_ranges start) (tidy-more rs x e) ∙ spell_behind start (tidy rs) (waiting rs ++ (x ∷ [])))
