-- Numbers in bytes and in words of 64 bits, the least significant first.
use Rattle.std.proofs.Common.{◌≡◌, ℕ, zero, suc, ◌+◌, ◌*◌, ◌%◌, ◌^◌, ◌<◌, ◌≤◌, Bool, true, false, ◌&&◌, eqb, List, [], ◌∷◌, ◌++◌, length, get_or, take, drop, sym, refl, ap, ◌∙◌, ap₂, add-zero, mod-eq_of_lt, mul_assoc, mul_comm, one-mul, pow-suc, mul_left_comm, arith, length-drop, length-take-le, drop-cons, drop-drop, take-add, eq-eqb, ne_eqb, eqb-true, take_all, w64}
use lib.Pointwise.{pointwise}
use Rattle.std.specs.Int.{from_le_bytes}
use native.Mathlib.Nat as N
use native.Mathlib.Numerals.{towards_suc}
use lib.Arith.{digits_mod}
use borrow.Author.Tests.{eqb-false}
use Rattle.message.proofs.Exact.{by_test}
use Rattle.label.specs.Label.{little_endian}
use Rattle.label.specs.Code.{sum_in}

-- ---- numbers in bytes

-- the n elements from place i on, one by one
abbrev pub firsts : ℕ → ℕ → List ℕ → List ℕ
firsts zero i l = []
firsts (suc n) i l = get_or l i 0 ∷ firsts n (suc i) l

pub firsts_take : (n i : ℕ) (l : List ℕ) → i + n ≤ length l → firsts n i l ≡ take n (drop i l)
firsts_take zero i l h = refl
firsts_take (suc n) i l h = rw (drop-cons l i 0 (omega arith)) (ap (λ (x : List ℕ). get_or l i 0 ∷ x) (firsts_take n (suc i) l (omega arith)))

-- eight bytes, as `from_le_bytes` puts them together
pub word_is : (l : List ℕ) (i : ℕ) → i + 8 ≤ length l
    → from_le_bytes w64 (get_or l i 0 ∷ get_or l (i + 1) 0 ∷ get_or l (i + 2) 0 ∷ get_or l (i + 3) 0 ∷ get_or l (i + 4) 0 ∷ get_or l (i + 5) 0 ∷ get_or l (i + 6) 0 ∷ get_or l (i + 7) 0 ∷ [])
    ≡ little_endian (take 8 (drop i l))
unfolding little_endian
word_is l i fits = simp towards_suc (omega (arith, ap little_endian (firsts_take 8 i l fits)))

pub pow_step : (n v : ℕ) → 256 ^ suc n * v ≡ 256 * (256 ^ n * v)
pow_step n v = ap (λ (x : ℕ). x * v) (pow-suc 256 n ∙ mul_comm (256 ^ n) 256) ∙ mul_assoc 256 (256 ^ n) v

bytes-append : (a b : List ℕ) → little_endian (a ++ b) ≡ little_endian a + 256 ^ length a * little_endian b
unfolding little_endian
bytes-append [] b = omega (arith, one-mul (little_endian b))
bytes-append (x ∷ a) b = ap (λ (n : ℕ). x + 256 * n) (bytes-append a b) ∙ omega (arith, pow_step (length a) (little_endian b))

-- k bytes, then n more
bytes-split : (k n i : ℕ) (l : List ℕ) → i + k ≤ length l → little_endian (take (k + n) (drop i l)) ≡ little_endian (take k (drop i l)) + 256 ^ k * little_endian (take n (drop (i + k) l))
bytes-split k n i l h =
    let fits : k ≤ length (drop i l) = rw (length-drop i l) (omega arith) in
    ap little_endian (take-add k n (drop i l)) ∙ bytes-append (take k (drop i l)) (take n (drop k (drop i l))) ∙ rw (length-take-le k (drop i l) fits, drop-drop k i l) refl

-- ---- numbers in four words

abbrev pub four : ℕ → ℕ → ℕ → ℕ → ℕ
four a b c d = a + 2 ^ 64 * (b + 2 ^ 64 * (c + 2 ^ 64 * d))

word_lt : (m a h : ℕ) → a < 2 ^ 64 → h < m → a + 2 ^ 64 * h < 2 ^ 64 * m
word_lt m a h p q = omega arith

four_lt : (a b c d : ℕ) → a < 2 ^ 64 → b < 2 ^ 64 → c < 2 ^ 64 → d < 2 ^ 64 → four a b c d < 2 ^ 256
four_lt a b c d ha hb hc hd = word_lt (2 ^ 192) a _ ha (word_lt (2 ^ 128) b _ hb (word_lt (2 ^ 64) c d hc hd))

-- two numbers are equal if their lowest words are and what stands above these
word_split : (a b x y : ℕ) → a < 2 ^ 64 → b < 2 ^ 64 → eqb (a + 2 ^ 64 * x) (b + 2 ^ 64 * y) ≡ eqb a b && eqb x y
word_split a b x y ha hb =
    by_test (eqb a b)
    (λ t. let low = eqb-true a b t in
    rw t (by_test (eqb x y)
    (λ u. let high = eqb-true x y u in rw (u, eq-eqb (a + 2 ^ 64 * x) (b + 2 ^ 64 * y) (omega arith)) refl)
    (λ u. let high = eqb-false x y u in rw (u, ne_eqb (a + 2 ^ 64 * x) (b + 2 ^ 64 * y) (λ e. high (omega arith))) refl)))
    (λ f. let low = eqb-false a b f in rw (f, ne_eqb (a + 2 ^ 64 * x) (b + 2 ^ 64 * y) (λ e. low (omega arith))) refl)

and_true : (t : Bool) → t && true ≡ t
and_true true = refl
and_true false = refl

four_words : (l : List ℕ) → length l ≡ 4 → l ≡ firsts 4 0 l
four_words l h = sym (firsts_take 4 0 l (omega arith) ∙ take_all 4 l (omega arith))

-- the words of two sums are equal exactly if the sums are
pub same_words : (a b : List ℕ) → length a ≡ 4 → length b ≡ 4 → ((k : ℕ) → get_or a k 0 < 2 ^ 64) → ((k : ℕ) → get_or b k 0 < 2 ^ 64) → pointwise eqb a b ≡ eqb (sum_in a) (sum_in b)
same_words a b na nb fa fb =
    ap₂ (pointwise eqb) (four_words a na) (four_words b nb)
    ∙ sym (word_split _ _ _ _ (fa 0) (fb 0)
    ∙ ap (λ (t : Bool). eqb (get_or a 0 0) (get_or b 0 0) && t) (word_split _ _ _ _ (fa 1) (fb 1)
    ∙ ap (λ (t : Bool). eqb (get_or a 1 0) (get_or b 1 0) && t) (word_split _ _ _ _ (fa 2) (fb 2)
    ∙ ap (λ (t : Bool). eqb (get_or a 2 0) (get_or b 2 0) && t) (sym (and_true (eqb (get_or a 3 0) (get_or b 3 0)))))))

-- the number of 32 bytes is that of their four words
pub words_are : (l : List ℕ) (a b c d : ℕ) → 32 ≤ length l
    → a ≡ little_endian (take 8 (drop 0 l)) → b ≡ little_endian (take 8 (drop 8 l)) → c ≡ little_endian (take 8 (drop 16 l)) → d ≡ little_endian (take 8 (drop 24 l))
    → four a b c d ≡ little_endian (take 32 l)
words_are l a b c d h pa pb pc pd =
    let more : ℕ → ℕ → ℕ = λ x y. x + 2 ^ 64 * y in
    sym (bytes-split 8 24 0 l (omega arith)
    ∙ ap₂ more (sym pa) (bytes-split 8 16 8 l (omega arith)
    ∙ ap₂ more (sym pb) (bytes-split 8 8 16 l (omega arith)
    ∙ ap₂ more (sym pc) (sym pd))))

-- four words make a sum that is not cut
pub id_is : (v a b c d : ℕ) → a < 2 ^ 64 → b < 2 ^ 64 → c < 2 ^ 64 → d < 2 ^ 64 → four a b c d ≡ v → four a b c d ≡ (v + 0) % 2 ^ 256
id_is v a b c d ha hb hc hd e = sym (ap (λ (n : ℕ). n % 2 ^ 256) (add-zero v ∙ sym e) ∙ mod-eq_of_lt (four_lt a b c d ha hb hc hd))

-- one word more: l and its carry k are the sum of the low words and the carry j below; h and x those of the words above
carry_step : (a b j l k p q h x : ℕ) → l + k * 2 ^ 64 ≡ a + b + j → h + x ≡ p + q + k → (l + 2 ^ 64 * h) + 2 ^ 64 * x ≡ (a + 2 ^ 64 * p) + (b + 2 ^ 64 * q) + j
carry_step a b j l k p q h x e f = omega arith

carry_out : (k : ℕ) → 2 ^ 64 * (2 ^ 64 * (2 ^ 64 * (k * 2 ^ 64))) ≡ k * 2 ^ 256
carry_out k =
    ap (λ (n : ℕ). 2 ^ 64 * (2 ^ 64 * n)) (mul_left_comm (2 ^ 64) k (2 ^ 64)) ∙ ap (λ (n : ℕ). 2 ^ 64 * n) (mul_left_comm (2 ^ 64) k (2 ^ 128)) ∙ mul_left_comm (2 ^ 64) k (2 ^ 192)

-- the carry out of the highest word is lost
pub sum_is : (a₀ a₁ a₂ a₃ b₀ b₁ b₂ b₃ l₀ l₁ l₂ l₃ k₀ k₁ k₂ k₃ : ℕ)
    → l₀ + k₀ * 2 ^ 64 ≡ a₀ + b₀ + 0 → l₁ + k₁ * 2 ^ 64 ≡ a₁ + b₁ + k₀ → l₂ + k₂ * 2 ^ 64 ≡ a₂ + b₂ + k₁ → l₃ + k₃ * 2 ^ 64 ≡ a₃ + b₃ + k₂
    → l₀ < 2 ^ 64 → l₁ < 2 ^ 64 → l₂ < 2 ^ 64 → l₃ < 2 ^ 64 → four l₀ l₁ l₂ l₃ ≡ (four a₀ a₁ a₂ a₃ + four b₀ b₁ b₂ b₃) % 2 ^ 256
sum_is a₀ a₁ a₂ a₃ b₀ b₁ b₂ b₃ l₀ l₁ l₂ l₃ k₀ k₁ k₂ k₃ e₀ e₁ e₂ e₃ h₀ h₁ h₂ h₃ =
    let s₂ = carry_step a₂ b₂ k₁ l₂ k₂ a₃ b₃ l₃ (k₃ * 2 ^ 64) e₂ e₃ in
    let s₁ = carry_step a₁ b₁ k₀ l₁ k₁ (a₂ + 2 ^ 64 * a₃) (b₂ + 2 ^ 64 * b₃) (l₂ + 2 ^ 64 * l₃) (2 ^ 64 * (k₃ * 2 ^ 64)) e₁ s₂ in
    let s₀ = carry_step a₀ b₀ 0 l₀ k₀ (a₁ + 2 ^ 64 * (a₂ + 2 ^ 64 * a₃)) (b₁ + 2 ^ 64 * (b₂ + 2 ^ 64 * b₃)) (l₁ + 2 ^ 64 * (l₂ + 2 ^ 64 * l₃)) (2 ^ 64 * (2 ^ 64 * (k₃ * 2 ^ 64))) e₀ s₁ in
    let r : ℕ = four l₀ l₁ l₂ l₃ in
    sym (ap (λ (n : ℕ). n % 2 ^ 256) (sym (add-zero (four a₀ a₁ a₂ a₃ + four b₀ b₁ b₂ b₃)) ∙ sym s₀ ∙ ap (λ (n : ℕ). r + n) (carry_out k₃) ∙ N.add_comm r (k₃ * 2 ^ 256))
    ∙ digits_mod k₃ (four_lt l₀ l₁ l₂ l₃ h₀ h₁ h₂ h₃))
