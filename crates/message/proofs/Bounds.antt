-- The reader of bounds is exact.
use Prim.Native.Nat.{ℕ, zero, suc, ◌+◌, ◌-◌, ◌*◌, ◌^◌, ◌<◌, ◌≤◌}
use mathlib.Core.Path.{◌≡◌, refl}
use mathlib.Core.List.{List, [], ◌∷◌, ◌++◌, append_assoc}
use native.Mathlib.Omega.{arith}
use native.Mathlib.Nat.{mul-le-mul_right}
use native.Mathlib.Decide.{dec_le}
use lib.ListN.{length}
use lib.Dec.{ltb, leb}
use borrow.Author.Tests.{ltb-true, lt-ltb, leb-true, le-leb}
use Rattle.message.specs.Reader.{read, give, read_bytes}
use Rattle.message.specs.Varint.{read_varint, spell_varint}
use Rattle.message.specs.Bound.{Bound, infinity, finite, time, prefix, big_endian, id_space, key, read_prefix, read_coded, read_bound, spell_prefix, spell_bound}
use Rattle.message.specs.WellFormed.{Bytes, LawfulBound}
use Rattle.message.proofs.Exact.{Spelled, Exact, got, given, judged, exact_bytes}
use Rattle.message.proofs.Varints.{exact_varint}
use Rattle.message.proofs.Order.{bytes_small, big_endian-small}

-- ---- rising keys have no falling times

no_fall : (s a t x y : ℕ) → a * s + x < t * s + y → y < s → a ≤ t
no_fall s a t x y h l = elim (dec_le a t) [ yes e ↦ e | no n ↦ let top : suc t * s ≤ a * s = mul-le-mul_right s (omega arith) in absurd (omega arith) ]

times_rise : (lower : Bound) (t : ℕ) (p : List ℕ) → Bytes p → key lower < key (finite t p) → time lower ≤ t
unfolding key id_space
times_rise lower t p h l = no_fall (2 ^ 256) (time lower) t (big_endian 32 (prefix lower)) (big_endian 32 p) l (big_endian-small 32 p (bytes_small p h))

-- infinity is above everything
reach : (s t top x : ℕ) → t < top → x < s → t * s + x < top * s
reach s t top x h l = let most : suc t * s ≤ top * s = mul-le-mul_right s h in omega arith

pub below-infinity : (t : ℕ) (p : List ℕ) → LawfulBound (finite t p) → key (finite t p) < key infinity
unfolding key id_space big_endian
below-infinity t p h = reach (2 ^ 256) t (2 ^ 64 - 1) (big_endian 32 p) (omega arith) (big_endian-small 32 p (bytes_small p h.2))

-- ---- the prefix

abbrev pub LawfulPrefix : ℕ → List ℕ → Type 0
LawfulPrefix most p = (length p ≤ most) × Bytes p

pub exact_prefix : (most : ℕ) → most < 2 ^ 64 → Exact (read_prefix most) spell_prefix (LawfulPrefix most)
unfolding read_prefix spell_prefix
exact_prefix most small = record {
  reads = λ p rest h.
      rw (append_assoc, exact_varint.reads (length p) (p ++ rest) (omega arith), le-leb (length p) most h.0) ((exact_bytes (length p)).reads p rest (refl, h.1));
  spells = λ m p rest by e.
      got (read_varint m) _ e λ n m₁ e₁ d.
      let v = exact_varint.spells m n m₁ by e₁ in
      let j = judged (leb n most) 9 m₁ (read_bytes n) d in
      let b = (exact_bytes n).spells m₁ p rest v.bytes j.1 in
      record {
        sound = (rw b.sound.0 (leb-true n most j.0), b.sound.1);
        whole = rw (append_assoc, b.sound.0, ← b.whole) v.whole;
        bytes = b.bytes;
      };
}

-- ---- the bound

abbrev pub Next : Bound → Bound → Type 0
Next lower u = (key lower < key u) × LawfulBound u

bound-there : (lower u : Bound) (rest : List ℕ) → Next lower u → read_bound lower (spell_bound lower u ++ rest) ≡ read u rest
unfolding read_bound read_coded spell_bound
bound-there lower infinity rest h =
    rw (
      append_assoc,
      exact_varint.reads 0 (spell_prefix [] ++ rest) (omega arith),
      (exact_prefix 0 (omega arith)).reads [] rest (omega arith, tt),
      lt-ltb (key lower) (key infinity) h.0,
    )
bound-there lower (finite t p) rest h =
    let same : time lower + (t - time lower) ≡ t = omega (arith, times_rise lower t p h.1.2 h.0) in
    rw (
      append_assoc,
      exact_varint.reads (suc (t - time lower)) (spell_prefix p ++ rest) (omega arith),
      same,
      le-leb t (2 ^ 64 - 2) h.1.0,
      (exact_prefix 32 (omega arith)).reads p rest (h.1.1, h.1.2),
      lt-ltb (key lower) (key (finite t p)) h.0,
    )

no_bytes : (p : List ℕ) → length p ≤ 0 → p ≡ []
no_bytes [] h = refl
no_bytes (b ∷ p) h = absurd (omega arith)

timed-back : (lower : Bound) (code : ℕ) (m n : List ℕ) (u : Bound) (rest : List ℕ) → n ≡ spell_varint code ++ m → Bytes m → read_coded lower code m ≡ read u rest
    → Spelled (spell_bound lower) (Next lower) n u rest
unfolding read_coded spell_bound
timed-back lower zero m n u rest w by e =
    got (read_prefix 0 m) _ e λ p m₁ e₁ d.
    let s = (exact_prefix 0 (omega arith)).spells m p m₁ by e₁ in
    let j = judged (ltb (key lower) (key infinity)) 9 m₁ (give infinity) d in
    given (Spelled (spell_bound lower) (Next lower) n) j.1 (record {
      sound = (ltb-true (key lower) (key infinity) j.0, tt);
      whole = rw (append_assoc, ← no_bytes p s.sound.0, ← s.whole) w;
      bytes = s.bytes;
    })
timed-back lower (suc v) m n u rest w by e =
    let i = judged (leb (time lower + v) (2 ^ 64 - 2)) 9 m _ e in
    got (read_prefix 32 m) _ i.1 λ p m₁ e₁ d.
    let s = (exact_prefix 32 (omega arith)).spells m p m₁ by e₁ in
    let j = judged (ltb (key lower) (key (finite (time lower + v) p))) 9 m₁ (give (finite (time lower + v) p)) d in
    let code : time lower + v - time lower ≡ v = omega arith in
    given (Spelled (spell_bound lower) (Next lower) n) j.1 (record {
      sound = (ltb-true _ _ j.0, (leb-true _ _ i.0, s.sound.0, s.sound.1));
      whole = rw (append_assoc, code, ← s.whole) w;
      bytes = s.bytes;
    })

pub exact_bound : (lower : Bound) → Exact (read_bound lower) (spell_bound lower) (Next lower)
unfolding read_bound
exact_bound lower = record {
  reads = bound-there lower;
  spells = λ m u rest by e.
      got (read_varint m) _ e λ code m₁ e₁ d.
      let v = exact_varint.spells m code m₁ by e₁ in
      timed-back lower code m₁ m u rest v.whole v.bytes d;
}
