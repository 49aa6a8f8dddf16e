-- Bits of bytes: one read, one set.
use Prim.Native.Nat.{ℕ, zero, suc, ◌+◌, ◌*◌, ◌-◌, ◌/◌, ◌%◌, ◌^◌, ◌<◌}
use mathlib.Core.Path.{◌≡◌, refl, sym, ap, ◌∙◌}
use mathlib.Core.List.{List, [], ◌∷◌, ◌++◌, append_assoc}
use native.Mathlib.Omega.{arith}
use native.Mathlib.Nat.{div-one, one-mul, pow-suc}
use lib.Bits.{bit_and}
use lib.Dec.{eqb, ltb}
use lib.ListN.{length, get_or, set, replicate, length-append, get_or-append}
use lib.Pow.{shl_exact, shr-shr}
use lib.Seq.{get_or-append-add, set-append_left, set-get_or}
use borrow.Author.Tests.{ltb-true, ltb-false, eqb-true, eqb-false}
use Rattle.std.specs.Int.Bits.{bit_or, or_add_and}
use Rattle.std.proofs.lemmas.Nat.{or_disjoint}
use Rattle.std.proofs.lemmas.Nat.Bits.{and_pow}
use Rattle.message.proofs.Exact.{by_test}
use Rattle.removal.specs.Removing.{bits, bits_in}

-- ---- of one number

pub bits-length : (n b : ℕ) → length (bits n b) ≡ n
unfolding bits
bits-length zero b = refl
bits-length (suc n) b = ap suc (bits-length n (b / 2))

half_power : (j b : ℕ) → b / 2 / 2 ^ j ≡ b / 2 ^ suc j
half_power j b = let e : 1 + j ≡ suc j = omega arith in rw e at (shr-shr b 1 j)

bit_at : (n j b : ℕ) → j < n → get_or (bits n b) j 0 ≡ b / 2 ^ j % 2
unfolding bits
bit_at zero j b h = absurd (omega arith)
bit_at (suc n) zero b h = ap (λ (x : ℕ). x % 2) (sym (div-one b))
bit_at (suc n) (suc j) b h = bit_at n j (b / 2) (omega arith) ∙ ap (λ (x : ℕ). x % 2) (half_power j b)

-- a bit that is 0 becomes 1: the power is added, and nothing is carried
bit_set : (n j b : ℕ) → j < n → b / 2 ^ j % 2 ≡ 0 → bits n (b + 2 ^ j) ≡ set (bits n b) j 1
unfolding bits
bit_set zero j b h e = absurd (omega arith)
bit_set (suc n) zero b h e =
    let even : b % 2 ≡ 0 = rw (div-one b) at e in
    let odd : (b + 1) % 2 ≡ 1 = omega arith in
    let half : (b + 1) / 2 ≡ b / 2 = omega arith in
    rw (odd, half) refl
bit_set (suc n) (suc j) b h e =
    let p = pow-suc 2 j in
    let low : (b + 2 ^ suc j) % 2 ≡ b % 2 = omega arith in
    let half : (b + 2 ^ suc j) / 2 ≡ b / 2 + 2 ^ j = omega arith in
    rw (low, half) (ap (λ (l : List ℕ). b % 2 ∷ l) (bit_set n j (b / 2) (omega arith) (rw (half_power j b) e)))

-- a bit that is set is there, or its power is added
or_power : (b j : ℕ) → b / 2 ^ j % 2 ≡ 0 → bit_or b (2 ^ j) ≡ b + 2 ^ j
or_power b j e = or_disjoint b (2 ^ j) (and_pow b j ∙ rw e (omega arith))

or_set : (b j : ℕ) → b / 2 ^ j % 2 ≡ 1 → bit_or b (2 ^ j) ≡ b
or_set b j e = let p : bit_and b (2 ^ j) ≡ 1 * 2 ^ j = and_pow b j ∙ rw e refl in omega (arith, or_add_and b (2 ^ j), p)

-- a power that has room in a byte is not cut off
pub power_fits : (j : ℕ) → j < 8 → 1 * 2 ^ j % 256 ≡ 2 ^ j
power_fits j h = shl_exact 1 j 8 (omega arith) (omega arith) ∙ one-mul (2 ^ j)

-- ---- of bytes

pub bits_in_length : (bs : List ℕ) → length (bits_in bs) ≡ length bs * 8
unfolding bits_in
bits_in_length [] = refl
bits_in_length (b ∷ bs) = omega (arith, length-append (bits 8 b) (bits_in bs), bits-length 8 b, bits_in_length bs)

pub bits_in_append : (k l : List ℕ) → bits_in (k ++ l) ≡ bits_in k ++ bits_in l
unfolding bits_in
bits_in_append [] l = refl
bits_in_append (b ∷ k) l = rw (bits_in_append k l) (sym (append_assoc (bits 8 b) (bits_in k) (bits_in l)))

pub bits_in_zeros : (n : ℕ) → bits_in (replicate n 0) ≡ replicate (n * 8) 0
unfolding bits_in bits
bits_in_zeros zero = refl
bits_in_zeros (suc n) =
    let e : suc n * 8 ≡ suc (suc (suc (suc (suc (suc (suc (suc (n * 8)))))))) = omega arith in
    rw (e, bits_in_zeros n) refl

set-append-add : (xs ys : List ℕ) (k a : ℕ) → set (xs ++ ys) (length xs + k) a ≡ xs ++ set ys k a
set-append-add [] ys k a = let e : 0 + k ≡ k = omega arith in rw e refl
set-append-add (x ∷ xs) ys k a = let e : suc (length xs) + k ≡ suc (length xs + k) = omega arith in rw e (ap (λ (l : List ℕ). x ∷ l) (set-append-add xs ys k a))

-- bit number k of the bytes: that of its byte
pub byte_bit : (bs : List ℕ) (k : ℕ) → k < length bs * 8 → get_or (bits_in bs) k 0 ≡ get_or bs (k / 8) 0 / 2 ^ (k % 8) % 2
unfolding bits_in
byte_bit [] k h = absurd (omega arith)
byte_bit (b ∷ bs) k h =
    by_test (ltb k 8)
    (λ p. let l = ltb-true k 8 p in
    let q : k / 8 ≡ 0 = omega arith in
    let r : k % 8 ≡ k = omega arith in
    get_or-append (bits 8 b) (bits_in bs) 0 k (omega (arith, bits-length 8 b)) ∙ bit_at 8 k b l ∙ rw (q, r) refl)
    (λ p. let l = ltb-false k 8 p in
    let e : k ≡ length (bits 8 b) + (k - 8) = omega (arith, bits-length 8 b) in
    let q : k / 8 ≡ suc ((k - 8) / 8) = omega arith in
    let r : k % 8 ≡ (k - 8) % 8 = omega arith in
    ap (λ (x : ℕ). get_or (bits 8 b ++ bits_in bs) x 0) e ∙ get_or-append-add (bits 8 b) (bits_in bs) (k - 8) 0 ∙ byte_bit bs (k - 8) (omega arith) ∙ rw (q, r) refl)

byte_set : (bs : List ℕ) (k : ℕ) → k < length bs * 8 → get_or bs (k / 8) 0 / 2 ^ (k % 8) % 2 ≡ 0
    → bits_in (set bs (k / 8) (get_or bs (k / 8) 0 + 2 ^ (k % 8))) ≡ set (bits_in bs) k 1
unfolding bits_in
byte_set [] k h z = absurd (omega arith)
byte_set (b ∷ bs) k h z =
    by_test (ltb k 8)
    (λ p. let l = ltb-true k 8 p in
    let q : k / 8 ≡ 0 = omega arith in
    let r : k % 8 ≡ k = omega arith in
    rw (q, r)
    (ap (λ (x : List ℕ). x ++ bits_in bs) (bit_set 8 k b l (rw (q, r) at z)) ∙ sym (set-append_left (bits 8 b) (bits_in bs) k 1 (omega (arith, bits-length 8 b)))))
    (λ p. let l = ltb-false k 8 p in
    let e : k ≡ length (bits 8 b) + (k - 8) = omega (arith, bits-length 8 b) in
    let q : k / 8 ≡ suc ((k - 8) / 8) = omega arith in
    let r : k % 8 ≡ (k - 8) % 8 = omega arith in
    rw (q, r)
    (ap (λ (x : List ℕ). bits 8 b ++ x) (byte_set bs (k - 8) (omega arith) (rw (q, r) at z))
    ∙ sym (set-append-add (bits 8 b) (bits_in bs) (k - 8) 1) ∙ ap (λ (x : ℕ). set (bits 8 b ++ bits_in bs) x 1) (sym e)))

pub bit_set_in : (bs : List ℕ) (k : ℕ) → k < length bs * 8 → bits_in (set bs (k / 8) (bit_or (get_or bs (k / 8) 0) (2 ^ (k % 8)))) ≡ set (bits_in bs) k 1
bit_set_in bs k h =
    let b = get_or bs (k / 8) 0 in
    by_test (eqb (b / 2 ^ (k % 8) % 2) 0)
    (λ e. let z = eqb-true _ _ e in rw (or_power b (k % 8) z) (byte_set bs k h z))
    (λ e.
    let n = eqb-false _ _ e in
    let one : b / 2 ^ (k % 8) % 2 ≡ 1 = omega arith in
    rw (or_set b (k % 8) one, set-get_or bs (k / 8) 0)
    (sym (set-get_or (bits_in bs) k 0) ∙ ap (λ (v : ℕ). set (bits_in bs) k v) (byte_bit bs k h ∙ one)))
