-- The bytes of a label, and those that its fingerprint is made of: the four words of the sum, then the count, each laid behind those before it.
use Rattle.std.proofs.Common.{◌≡◌, ℕ, zero, suc, ◌+◌, ◌-◌, ◌*◌, ◌/◌, ◌%◌, ◌^◌, ◌<◌, ◌≤◌, leb, List, ◌∷◌, ◌++◌, length, take, drop, sym, refl, ap, ◌∙◌, subst, ap₂, append_assoc, div-lt_iff_lt-mul, suc-add, one-mul, pow-suc, zero-add, arith, lit<, length-append, take_at, leb-false, leb-true, w64}
use lib.Arith.{lt-one}
use borrow.Rule.Slice.PartMut.{mid_of, put_mid}
use Rattle.std.specs.Int.{to_le_bytes}
use Rattle.message.specs.Varint.{spell_varint}
use Rattle.message.proofs.Exact.{by_test}
use Rattle.message.proofs.Varints.{as_few_as_possible, spell_short}
use Rattle.writer.specs.Writing.{lay}
use Rattle.writer.proofs.Laying.{rest, lay-fits, lay-length, lay-behind, lay-copied}
use Rattle.sha256.specs.Fips180.{digest}
use Rattle.label.specs.Label.{Label, low_bytes, hashed, fingerprint, spell_label}
use Rattle.label.proofs.Words.{pow_step, four}

-- ---- the bytes of a number

pub low-length : (n v : ℕ) → length (low_bytes n v) ≡ n
unfolding low_bytes
low-length zero v = refl
low-length (suc n) v = ap suc (low-length n (v / 256))

-- as `to_le_bytes` has them
pub le-bytes : (v : ℕ) → to_le_bytes w64 v ≡ low_bytes 8 v
unfolding low_bytes
le-bytes v =
    let two : v / 256 / 256 ≡ v / 0x1_0000 = omega arith in
    let three : v / 0x1_0000 / 256 ≡ v / 0x100_0000 = omega arith in
    let four : v / 0x100_0000 / 256 ≡ v / 0x1_0000_0000 = omega arith in
    let five : v / 0x1_0000_0000 / 256 ≡ v / 0x100_0000_0000 = omega arith in
    let six : v / 0x100_0000_0000 / 256 ≡ v / 0x1_0000_0000_0000 = omega arith in
    let seven : v / 0x1_0000_0000_0000 / 256 ≡ v / 0x100_0000_0000_0000 = omega arith in
    rw (two, three, four, five, six, seven) refl

-- m bytes, then n more
low-split : (m n a h : ℕ) → a < 256 ^ m → low_bytes (m + n) (a + 256 ^ m * h) ≡ low_bytes m a ++ low_bytes n h
unfolding low_bytes
low-split zero n a h l = ap₂ low_bytes (zero-add n) (ap₂ (λ (x y : ℕ). x + y) (lt-one l) (one-mul h) ∙ zero-add h)
low-split (suc m) n a h l =
    let e = pow_step m h in
    let d : a / 256 < 256 ^ m = (div-lt_iff_lt-mul (lit< tt)).1 (subst (λ (x : ℕ). a < x) (pow-suc 256 m) l) in
    let low : (a + 256 ^ suc m * h) % 256 ≡ a % 256 = omega (arith, e) in
    let high : (a + 256 ^ suc m * h) / 256 ≡ a / 256 + 256 ^ m * h = omega (arith, e) in
    ap (λ (k : ℕ). low_bytes k (a + 256 ^ suc m * h)) (suc-add m n)
    ∙ ap₂ (λ (x : ℕ) (y : List ℕ). x ∷ y) low (ap (low_bytes (m + n)) high ∙ low-split m n (a / 256) h d)

low_four : (a b c d : ℕ) → a < 2 ^ 64 → b < 2 ^ 64 → c < 2 ^ 64 → low_bytes 32 (four a b c d) ≡ low_bytes 8 a ++ (low_bytes 8 b ++ (low_bytes 8 c ++ low_bytes 8 d))
low_four a b c d ha hb hc =
    low-split 8 24 a (b + 2 ^ 64 * (c + 2 ^ 64 * d)) ha
    ∙ ap (λ (x : List ℕ). low_bytes 8 a ++ x) (low-split 8 16 b (c + 2 ^ 64 * d) hb ∙ ap (λ (x : List ℕ). low_bytes 8 b ++ x) (low-split 8 8 c d hc))

-- ---- bytes laid behind one another

-- ten digits hold 64 bits
pub varint_fits : (v : ℕ) → v < 2 ^ 64 → length (spell_varint v) ≤ 10
varint_fits v h =
    let n : ℕ = length (spell_varint v) in
    by_test (leb n 10) (leb-true n 10)
    (λ e. let eleven : 10 + 1 ≡ n = omega (arith, leb-false n 10 e, spell_short v) in absurd (omega (arith, ((as_few_as_possible 10 v h).0 eleven).1 (omega arith))))

-- ---- the bytes of a sum

regroup : (a b c d : List ℕ) → ((a ++ b) ++ c) ++ d ≡ a ++ (b ++ (c ++ d))
regroup a b c d = simp append_assoc

-- four words copied behind one another
pub words-laid : (a b c d : ℕ) (o : List ℕ) → a < 2 ^ 64 → b < 2 ^ 64 → c < 2 ^ 64 → 32 ≤ length o
    → put_mid 24 8 (put_mid 16 8 (put_mid 8 8 (low_bytes 8 a ++ drop 8 o) (low_bytes 8 b)) (low_bytes 8 c)) (low_bytes 8 d) ≡ lay (low_bytes 32 (four a b c d)) o
words-laid a b c d o ha hb hc h =
    let word = low_bytes 8 in
    let na = low-length 8 a in
    let nb = low-length 8 b in
    let nc = low-length 8 c in
    let nd = low-length 8 d in
    let two : length (word a ++ word b) ≡ 16 = omega (arith, length-append (word a) (word b)) in
    let three : length ((word a ++ word b) ++ word c) ≡ 24 = omega (arith, length-append (word a ++ word b) (word c)) in
    let s₁ : word a ++ drop 8 o ≡ lay (word a) o = ap (λ (k : ℕ). word a ++ drop k o) (sym na) ∙ sym (lay-fits (word a) o (omega arith)) in
    let s₂ = lay-copied (word a) (word b) o _ 8 8 (omega arith) (omega arith) (omega arith) s₁ in
    let s₃ = lay-copied (word a ++ word b) (word c) o _ 16 8 (omega arith) (omega arith) (omega arith) s₂ in
    let s₄ = lay-copied ((word a ++ word b) ++ word c) (word d) o _ 24 8 (omega arith) (omega arith) (omega arith) s₃ in
    s₄ ∙ ap (λ (x : List ℕ). lay x o) (regroup (word a) (word b) (word c) (word d) ∙ sym (low_four a b c d ha hb hc))

-- ---- those of a label

pub spell_length : (l : Label) → length (spell_label l) ≡ 40
unfolding spell_label
spell_length l = rw (length-append (low_bytes 32 l.sum) (low_bytes 8 l.count), low-length 32 l.sum, low-length 8 l.count) refl

-- the count copied behind the sum
pub spell_laid : (l : Label) (o o₁ : List ℕ) → 40 ≤ length o → o₁ ≡ lay (low_bytes 32 l.sum) o → put_mid 32 8 o₁ (low_bytes 8 l.count) ≡ spell_label l ++ drop 40 o
unfolding spell_label
spell_laid l o o₁ h p =
    let a = low_bytes 32 l.sum in
    let b = low_bytes 8 l.count in
    let na = low-length 32 l.sum in
    let nb = low-length 8 l.count in
    let n : length (a ++ b) ≡ 40 = omega (arith, length-append a b) in
    lay-copied a b o o₁ 32 8 (omega arith) (omega arith) (omega arith) p ∙ lay-fits (a ++ b) o (omega arith) ∙ ap (λ (k : ℕ). (a ++ b) ++ drop k o) n

-- ---- what is hashed

-- an array of 42 bytes to which the sum and then the bytes v were written
module _ (s : ℕ) (v o o₁ l₂ : List ℕ) (h : length o ≡ 42) (n : length v ≤ 10) (p₁ : o₁ ≡ lay (low_bytes 32 s) o) (p₂ : l₂ ≡ lay v (mid_of 32 10 o₁)) where
  hashed-laid : put_mid 32 10 o₁ l₂ ≡ lay (low_bytes 32 s ++ v) o
  hashed-laid =
      let a = low_bytes 32 s in
      let na = low-length 32 s in
      let left : 10 ≡ length o₁ - 32 = omega (arith, lay-length a o o₁ (omega arith) p₁) in
      let part : l₂ ≡ lay v (rest 32 o₁) = p₂ ∙ ap (λ (k : ℕ). lay v (take k (drop 32 o₁))) left in
      ap (λ (k : ℕ). put_mid 32 k o₁ l₂) left ∙ lay-behind a v o o₁ l₂ 32 (sym na) (omega arith) p₁ part

  pub hashed_length : length (put_mid 32 10 o₁ l₂) ≡ 42
  hashed_length =
      let na = low-length 32 s in
      lay-length (low_bytes 32 s ++ v) o _ (omega (arith, length-append (low_bytes 32 s) v)) hashed-laid ∙ h

  pub hashed_is : (end : ℕ) → end ≡ 32 + length v → take end (put_mid 32 10 o₁ l₂) ≡ low_bytes 32 s ++ v
  hashed_is end e =
      let all : List ℕ = low_bytes 32 s ++ v in
      let na = low-length 32 s in
      let long : length all ≡ end = omega (arith, length-append (low_bytes 32 s) v) in
      ap (take end) (hashed-laid ∙ lay-fits all o (omega arith)) ∙ take_at all (drop (length all) o) end long

pub fingerprint_is : (l : Label) (bytes d r : List ℕ) → bytes ≡ hashed l → d ≡ digest bytes → r ≡ take 16 d → r ≡ fingerprint l
unfolding fingerprint
fingerprint_is l bytes d r p q e = e ∙ ap (take 16) (q ∙ ap digest p)

pub fingerprint-length : (l : Label) → length (fingerprint l) ≡ 16
unfolding fingerprint digest
fingerprint-length l = refl
