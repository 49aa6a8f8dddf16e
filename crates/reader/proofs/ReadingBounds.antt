-- Bounds at a place of a message.
use Prim.Native.Nat.{ℕ, zero, suc, ◌+◌, ◌-◌, ◌^◌, ◌<◌, ◌≤◌}
use mathlib.Core.Path.{◌≡◌, refl, sym, ◌∙◌}
use mathlib.Core.Bool.{Bool, true, false, cond}
use mathlib.Core.List.{List, [], ◌∷◌}
use native.Mathlib.Omega.{arith}
use lib.Dec.{ltb, leb}
use lib.ListN.{length}
use lib.Seq.{take_all}
use borrow.Author.Tests.{le-leb, lt-leb}
use Rattle.message.specs.Reader.{Outcome, read, refused, after, give, judge, read_bytes}
use Rattle.message.specs.Bound.{Bound, infinity, finite, time, prefix, key, above, read_prefix, read_coded}
use Rattle.message.specs.Code.{bound_of, length_of}
use Rattle.message.specs.declared.Bound as code
use Rattle.message.proofs.Forms.{time_alone, key_is}

-- ---- the prefix behind its length n

pub prefix-long : (n most : ℕ) (l : List ℕ) → most < n → refused 9 ≡ after (judge 9 (leb n most) l) (λ _. read_bytes n)
prefix-long n most l h = rw (lt-leb n most h) refl

pub prefix-fits : (n most : ℕ) (l : List ℕ) {o : Outcome (List ℕ)} → n ≤ most → o ≡ read_bytes n l → o ≡ after (judge 9 (leb n most) l) (λ _. read_bytes n)
prefix-fits n most l h e = rw (le-leb n most h) e

-- ---- the bound behind its time code n, o being what the prefix comes to

pub code_infinity : (lower : Bound) (n : ℕ) (l : List ℕ) {o : Outcome (List ℕ)} → n ≡ 0 → o ≡ read_prefix 0 l → after o (λ _. above lower infinity) ≡ read_coded lower n l
unfolding read_coded
code_infinity lower n l z f = rw (z, f) refl

pub code_late : (lower : Bound) (n : ℕ) (l : List ℕ) (last : ℕ) → time lower ≡ last → (n ≡ 0 → ⊥) → 2 ^ 64 - 2 < last + (n - 1) → refused 9 ≡ read_coded lower n l
unfolding read_coded
code_late lower zero l last t z h = absurd (z refl)
code_late lower (suc v) l last t z h = rw (t, lt-leb (last + v) (2 ^ 64 - 2) (omega arith)) refl

pub code_time : (lower : Bound) (n : ℕ) (l : List ℕ) (last : ℕ) {o : Outcome (List ℕ)} → time lower ≡ last → (n ≡ 0 → ⊥) → last + (n - 1) ≤ 2 ^ 64 - 2
    → o ≡ read_prefix 32 l → after o (λ x. above lower (finite (last + (n - 1)) x)) ≡ read_coded lower n l
unfolding read_coded
code_time lower zero l last t z h f = absurd (z refl)
code_time lower (suc v) l last t z h f = let s : suc v - 1 ≡ v = omega arith in rw (s, t, le-leb (last + v) (2 ^ 64 - 2) (omega arith), f) refl

-- ---- the comparison with the lower bound, whose time and prefix the code holds

judged : (u : Bound) (rest : List ℕ) (t : Bool) → cond t (read u rest) (refused 9) ≡ after (judge 9 t rest) (λ _. give u)
judged u rest true = refl
judged u rest false = refl

-- the part is the prefix of the bound
pub whole_prefix : (b : code.Bound) (p : List ℕ) → length p ≡ length_of b → p ≡ prefix (bound_of b p)
whole_prefix code.Bound.Infinity [] h = refl
whole_prefix code.Bound.Infinity (x ∷ p) h = absurd (omega arith)
whole_prefix (code.Bound.At t len) p h = sym (take_all len p (omega arith))

module _ (lower : code.Bound) (beside : List ℕ) (t : ℕ) (et : t ≡ time (bound_of lower [])) where
  pub lower-time : time (bound_of lower beside) ≡ t
  lower-time = time_alone lower beside [] ∙ sym et

  pub compared : (p : List ℕ) → p ≡ prefix (bound_of lower beside) → (u : Bound) (rest : List ℕ) {k : ℕ} {r : Bool} {o : Bound → Outcome Bound}
      → r ≡ ltb (key (finite t p)) k → k ≡ key u → ((l : Bound) → time l ≡ t → after (read u rest) (above l) ≡ o l) → cond r (read u rest) (refused 9) ≡ o (bound_of lower beside)
  compared p ep u rest f h e = rw (f, key_is lower beside t p et ep, h) (judged u rest (ltb (key (bound_of lower beside)) (key u)) ∙ e (bound_of lower beside) lower-time)
