-- A reader is exact: it reads back what was spelled, and what it read was spelled.
use Prim.Native.Nat.{ℕ, zero, suc}
use mathlib.Core.Path.{◌≡◌, refl, sym}
use mathlib.Core.Bool.{Bool, true, false, cond}
use mathlib.Core.List.{List, [], ◌∷◌, ◌++◌}
use native.Mathlib.Omega.{arith}
use lib.Dec.{leb}
use lib.ListN.{length, take, drop, length-append, take-append-drop}
use lib.Seq.{take-append_seam, drop-append_seam, length-take-le}
use borrow.Author.Tests.{leb-true, le-leb}
use Rattle.message.specs.Reader.{Outcome, read, refused, Reader, after, judge, read_bytes}
use Rattle.message.specs.WellFormed.{Bytes, Sized}

-- m is the spelling of a sound value, then the bytes `rest`
pub record Spelled {A : Type 0} (spell : A → List ℕ) (Ok : A → Type 0) (m : List ℕ) (a : A) (rest : List ℕ) : Type 0 where
  pub sound : Ok a
  pub whole : m ≡ spell a ++ rest
  pub bytes : Bytes rest

pub record Exact {A : Type 0} (reader : Reader A) (spell : A → List ℕ) (Ok : A → Type 0) : Type 0 where
  pub reads : (a : A) (rest : List ℕ) → Ok a → reader (spell a ++ rest) ≡ read a rest
  pub spells : (m : List ℕ) (a : A) (rest : List ℕ) → Bytes m → reader m ≡ read a rest → Spelled spell Ok m a rest

-- ---- by cases

pub differ : {X : Type 0} → ◌≡◌ {A = ℕ} 0 1 → X
differ e = absurd (omega arith)

-- to go by a test's value and keep the equation
pub by_test {ℓ} : {C : Type ℓ} (t : Bool) → (t ≡ true → C) → (t ≡ false → C) → C
by_test true f g = f refl
by_test false f g = g refl

-- what came of two steps came of the first, then of the second
pub got : {A B C : Type 0} (o : Outcome A) (f : A → Reader B) {b : B} {rest : List ℕ} → after o f ≡ read b rest → ((a : A) (m : List ℕ) → o ≡ read a m → f a m ≡ read b rest → C) → C
got (read a m) f e k = k a m refl e
got (refused n) f e k = differ (cc)

-- what is true of one outcome is true of an equal one
pub given : {A : Type 0} (P : A → List ℕ → Type 0) {a b : A} {m n : List ℕ} → read a m ≡ read b n → P a m → P b n
given P {a} {b} {m} {n} e h =
    let same : a ≡ b = cc in
    let tail : m ≡ n = cc in
    rw (← same, ← tail) h

-- two ways on that agree behind what was read
pub same_on : {A B : Type 0} (o : Outcome A) (f g : A → Reader B) → ((a : A) (m : List ℕ) → o ≡ read a m → f a m ≡ g a m) → after o f ≡ after o g
same_on (read a m) f g h = h a m refl
same_on (refused k) f g h = refl

-- what came behind a test, the test passed
pub passed : {B : Type 0} (t : Bool) (k : ℕ) (o : Outcome B) {b : B} {rest : List ℕ} → cond t o (refused k) ≡ read b rest → (t ≡ true) × (o ≡ read b rest)
passed true k o e = (refl, e)
passed false k o e = differ (cc)

pub judged : {B : Type 0} (t : Bool) (k : ℕ) (m : List ℕ) (s : Reader B) {b : B} {rest : List ℕ} → after (judge k t m) (λ _. s) ≡ read b rest → (t ≡ true) × (s m ≡ read b rest)
judged true k m s e = (refl, e)
judged false k m s e = differ (cc)

-- ---- plain bytes

pub bytes_take : (n : ℕ) (m : List ℕ) → Bytes m → Bytes (take n m) × Bytes (drop n m)
bytes_take zero m h = (tt, h)
bytes_take (suc n) [] h = (tt, tt)
bytes_take (suc n) (b ∷ m) h = let r = bytes_take n m h.1 in ((h.0, r.0), r.1)

pub exact_bytes : (n : ℕ) → Exact (read_bytes n) (λ (p : List ℕ). p) (Sized n)
unfolding read_bytes
exact_bytes n = record {
  reads = λ p rest h. rw (← h.0) (rw (le-leb (length p) (length (p ++ rest)) (rw (length-append p rest) (omega arith)), take-append_seam p rest, drop-append_seam p rest));
  spells = λ m p rest by e.
      let r = passed (leb n (length m)) _ _ e in
      let cut = bytes_take n m by in
      given (Spelled (λ (p : List ℕ). p) (Sized n) m) r.1 (record {
        sound = (length-take-le n m (leb-true n (length m) r.0), cut.0);
        whole = sym (take-append-drop n m);
        bytes = cut.1;
      });
}
