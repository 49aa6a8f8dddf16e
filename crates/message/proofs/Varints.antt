-- The reader of varints is exact, and a spelling has as few digits as possible.
use Prim.Native.Nat.{ℕ, zero, suc, ◌+◌, ◌*◌, ◌/◌, ◌%◌, ◌^◌, ◌<◌, ◌≤◌}
use mathlib.Core.Path.{◌≡◌, refl, sym, ap, ◌∙◌}
use mathlib.Core.List.{List, [], ◌∷◌, ◌++◌}
use native.Mathlib.Omega.{arith}
use native.Mathlib.Nat.{div-lt_iff_lt-mul, pow-suc, one-le-pow}
use native.Mathlib.Numerals.{add-one}
use native.Mathlib.Decide.{dec_lt, ℕ_discrete}
use lib.ListN.{length, get_or, length-append}
use lib.Dec.{lit<}
use borrow.Author.Tests.{lt-ltb, le-ltb, eq-eqb, ne_eqb}
use Rattle.message.specs.Reader.{read, refused}
use Rattle.message.specs.Varint.{read_digits, read_varint, digits_before, spell_varint}
use Rattle.message.specs.WellFormed.{Bytes}
use Rattle.message.proofs.Exact.{Spelled, Exact, differ}

-- ---- one byte

past : (b v : ℕ) (m : List ℕ) → 2 ^ 64 ≤ v * 128 + b % 128 → read_digits v (b ∷ m) ≡ refused 8
unfolding read_digits
past b v m h = simp (le-ltb _ _ h)

last : (b v w : ℕ) (m : List ℕ) → v * 128 + b % 128 ≡ w → w < 2 ^ 64 → b < 128 → read_digits v (b ∷ m) ≡ read w m
unfolding read_digits
last b v w m e h l = rw e (simp (lt-ltb _ _ h, lt-ltb _ _ l))

more : (b v w : ℕ) (m : List ℕ) → v * 128 + b % 128 ≡ w → w < 2 ^ 64 → 128 ≤ b → read_digits v (b ∷ m) ≡ read_digits w m
unfolding read_digits
more b v w m e h l = rw e (simp (lt-ltb _ _ h, le-ltb _ _ l))

padded : (b : ℕ) (m : List ℕ) → b ≡ 128 → read_varint (b ∷ m) ≡ refused 8
unfolding read_varint
padded b m e = simp (eq-eqb _ _ e)

unpadded : (b : ℕ) (m : List ℕ) → (b ≡ 128 → ⊥) → read_varint (b ∷ m) ≡ read_digits 0 (b ∷ m)
unfolding read_varint
unpadded b m n = simp (ne_eqb _ _ n)

-- ---- the digits before the last

pub digits_none : (f : ℕ) (m : List ℕ) → digits_before f 0 m ≡ m
unfolding digits_before
digits_none zero m = refl
digits_none (suc f) m = refl

pub digits_one : (f q : ℕ) (m : List ℕ) → 0 < q → digits_before (suc f) q m ≡ digits_before f (q / 128) ((128 + q % 128) ∷ m)
unfolding digits_before
digits_one f q m h = simp (ne_eqb q 0 (λ e. omega arith))

pub digits_fewer : (f q : ℕ) → q < 128 ^ suc f → q / 128 < 128 ^ f
digits_fewer f q h = (div-lt_iff_lt-mul {k = 128} {x = q} {y = 128 ^ f} (lit< tt)).1 (rw pow-suc at h)

-- one digit more allowed changes nothing
pub digits_spare : (f q : ℕ) (m : List ℕ) → q < 128 ^ f → digits_before (suc f) q m ≡ digits_before f q m
digits_spare zero q m h = let e : q ≡ 0 = omega arith in rw e (digits_none 1 m ∙ sym (digits_none 0 m))
digits_spare (suc f) q m h =
    elim (ℕ_discrete q 0) [
      | yes e ↦ rw e (digits_none (suc (suc f)) m ∙ sym (digits_none (suc f) m))
      | no n ↦ let pos : 0 < q = omega arith in digits_one (suc f) q m pos ∙ digits_spare f (q / 128) _ (digits_fewer f q h) ∙ sym (digits_one f q m pos)
    ]

pub digits_append : (f q : ℕ) (m rest : List ℕ) → digits_before f q m ++ rest ≡ digits_before f q (m ++ rest)
digits_append zero q m rest = unfold digits_before in refl
digits_append (suc f) q m rest =
    elim (ℕ_discrete q 0) [
      | yes e ↦ rw e (simp (digits_none (suc f)))
      | no n ↦ let pos : 0 < q = omega arith in rw (digits_one f q m pos, digits_one f q (m ++ rest) pos) (digits_append f (q / 128) ((128 + q % 128) ∷ m) rest)
    ]

-- ten digits are enough below 2^64, before and behind the step
pub digits_step : (q : ℕ) (m : List ℕ) → q < 2 ^ 64 → 0 < q → digits_before 10 q m ≡ digits_before 10 (q / 128) ((128 + q % 128) ∷ m)
digits_step q m h pos = digits_one 9 q m pos ∙ sym (digits_spare 9 (q / 128) _ (omega arith))

spell_append : (v : ℕ) (rest : List ℕ) → spell_varint v ++ rest ≡ digits_before 10 (v / 128) (v % 128 ∷ rest)
unfolding spell_varint
spell_append v rest = digits_append 10 (v / 128) (v % 128 ∷ []) rest

-- ---- what was spelled is read

-- the digits before the last are read as their number
come : (f q : ℕ) (m : List ℕ) → q < 128 ^ f → q < 2 ^ 64 → read_digits 0 (digits_before f q m) ≡ read_digits q m
come zero q m h l = let e : q ≡ 0 = omega arith in rw e (rw (digits_none 0 m) refl)
come (suc f) q m h l =
    elim (ℕ_discrete q 0) [
      | yes e ↦ rw e (rw (digits_none (suc f) m) refl)
      | no n ↦
          rw (digits_one f q m (omega arith))
          (come f (q / 128) ((128 + q % 128) ∷ m) (digits_fewer f q h) (omega arith) ∙ more (128 + q % 128) (q / 128) q m (omega arith) l (omega arith))
    ]

-- the first byte is no 80
first : (f q b : ℕ) (m : List ℕ) → q < 128 ^ f → (b ≡ 128 → 0 < q) → read_varint (digits_before f q (b ∷ m)) ≡ read_digits 0 (digits_before f q (b ∷ m))
first zero q b m h k = let e : q ≡ 0 = omega arith in rw e (rw (digits_none 0 (b ∷ m)) (unpadded b m (λ i. let z = k i in omega arith)))
first (suc f) q b m h k =
    elim (ℕ_discrete q 0) [
      | yes e ↦ rw e (rw (digits_none (suc f) (b ∷ m)) (unpadded b m (λ i. let z = k i in omega arith)))
      | no n ↦ rw (digits_one f q (b ∷ m) (omega arith)) (first f (q / 128) (128 + q % 128) (b ∷ m) (digits_fewer f q h) (λ i. omega arith))
    ]

read_spell : (v : ℕ) (rest : List ℕ) → v < 2 ^ 64 → read_varint (spell_varint v ++ rest) ≡ read v rest
read_spell v rest h =
    rw (spell_append v rest)
    (first 10 (v / 128) (v % 128) rest (omega arith) (λ e. omega arith)
    ∙ come 10 (v / 128) (v % 128 ∷ rest) (omega arith) (omega arith)
    ∙ last (v % 128) (v / 128) v rest (omega arith) h (omega arith))

-- ---- what was read was spelled

close : (v b : ℕ) (m : List ℕ) → b < 128 → digits_before 10 v (b ∷ m) ≡ spell_varint (v * 128 + b % 128) ++ m
close v b m h =
    let e : (v * 128 + b % 128) / 128 ≡ v = omega arith in
    let f : (v * 128 + b % 128) % 128 ≡ b = omega arith in
    rw (spell_append (v * 128 + b % 128) m, e, f) refl

move : (v b : ℕ) (m : List ℕ) → 0 < v * 128 + b % 128 → 128 ≤ b → b < 256 → v * 128 + b % 128 < 2 ^ 64 → digits_before 10 v (b ∷ m) ≡ digits_before 10 (v * 128 + b % 128) m
move v b m pos high byte fits =
    let u : ℕ = v * 128 + b % 128 in
    let e : v ≡ (v * 128 + b % 128) / 128 = omega arith in
    let f : b ≡ 128 + (v * 128 + b % 128) % 128 = omega arith in
    ap (λ (q : ℕ). digits_before 10 q (b ∷ m)) e ∙ ap (λ (x : ℕ). digits_before 10 (u / 128) (x ∷ m)) f ∙ sym (digits_step u m fits pos)

digits_back : (m : List ℕ) (v w : ℕ) (rest : List ℕ) → Bytes m → v < 2 ^ 64 → (get_or m 0 0 ≡ 128 → 0 < v) → read_digits v m ≡ read w rest
    → (w < 2 ^ 64) × (digits_before 10 v m ≡ spell_varint w ++ rest) × Bytes rest
digits_back [] v w rest by h k e = unfold read_digits in differ (cc)
digits_back (b ∷ m) v w rest by h k e =
    let u : ℕ = v * 128 + b % 128 in
    let byte : b < 256 = by.0 in
    elim (dec_lt u (2 ^ 64)) [
      | no n ↦ let d = sym (past b v m (omega arith)) ∙ e in differ (cc)
      | yes fits ↦
          elim (dec_lt b 128) [
            | yes low ↦
                let d = sym (last b v u m refl fits low) ∙ e in
                let same : u ≡ w = cc in
                let tail : m ≡ rest = cc in
                (omega arith, rw (← same, ← tail) (close v b m low), rw tail at by.1)
            | no n ↦
                let high : 128 ≤ b = omega arith in
                let pos : 0 < u = elim (ℕ_discrete b 128) [ yes i ↦ (let z = k i in omega arith) | no i ↦ omega arith ] in
                let r = digits_back m u w rest by.1 fits (λ i. pos) (sym (more b v u m refl fits high) ∙ e) in
                (r.0, move v b m pos high byte fits ∙ r.1, r.2)
          ]
    ]

varint_back : (m : List ℕ) (v : ℕ) (rest : List ℕ) → Bytes m → read_varint m ≡ read v rest → Spelled spell_varint (λ (n : ℕ). n < 2 ^ 64) m v rest
varint_back [] v rest by e = unfold read_varint in differ (cc)
varint_back (b ∷ m) v rest by e =
    elim (ℕ_discrete b 128) [
      | yes i ↦ let d = sym (padded b m i) ∙ e in differ (cc)
      | no i ↦
          let r = digits_back (b ∷ m) 0 v rest by (lit< tt) (λ j. absurd (i j)) (sym (unpadded b m i) ∙ e) in
          record { sound = r.0; whole = sym (digits_none 10 (b ∷ m)) ∙ r.1; bytes = r.2 }
    ]

pub exact_varint : Exact read_varint spell_varint (λ (n : ℕ). n < 2 ^ 64)
exact_varint = record { reads = read_spell; spells = varint_back }

-- ---- how many digits stand before the last

abbrev pub digit_count : ℕ → ℕ → ℕ
digit_count f q = length (digits_before f q [])

count-before : (f q b : ℕ) → length (digits_before f q (b ∷ [])) ≡ digit_count f q + 1
count-before f q b = rw (← digits_append f q [] (b ∷ []), length-append)

pub count_none : (f : ℕ) → digit_count f 0 ≡ 0
count_none f = ap length (digits_none f [])

count-one : (f q : ℕ) → 0 < q → digit_count (suc f) q ≡ digit_count f (q / 128) + 1
count-one f q h = ap length (digits_one f q [] h) ∙ count-before f (q / 128) (128 + q % 128)

pub count_step : (q : ℕ) → q < 2 ^ 64 → 0 < q → digit_count 10 q ≡ digit_count 10 (q / 128) + 1
count_step q h pos = ap length (digits_step q [] h pos) ∙ count-before 10 (q / 128) (128 + q % 128)

count_most : (f q : ℕ) → digit_count f q ≤ f
count_most zero q = unfold digits_before in omega arith
count_most (suc f) q =
    elim (ℕ_discrete q 0) [
      | yes e ↦ rw e (omega (arith, count_none (suc f)))
      | no n ↦ rw (count-one f q (omega arith)) (omega (arith, count_most f (q / 128)))
    ]

-- k digits hold q and fewer do not
count_is : (f k q : ℕ) → q < 128 ^ f → q < 128 ^ k → 128 ^ k ≤ q * 128 + 127 → digit_count f q ≡ k
count_is f zero q h u l = let e : q ≡ 0 = omega arith in rw e (count_none f)
count_is zero (suc k) q h u l =
    let some : 1 ≤ 128 ^ k = one-le-pow k 128 (lit< tt) in
    let high : 128 ^ k * 128 ≤ q * 128 + 127 = rw pow-suc at l in
    absurd (omega arith)
count_is (suc f) (suc k) q h u l =
    let some : 1 ≤ 128 ^ k = one-le-pow k 128 (lit< tt) in
    let high : 128 ^ k * 128 ≤ q * 128 + 127 = rw pow-suc at l in
    count-one f q (omega arith) ∙ rw (count_is f k (q / 128) (digits_fewer f q h) (digits_fewer k q u) (omega arith)) (omega arith)

count-holds : (f q : ℕ) → q < 128 ^ f → q < 128 ^ digit_count f q
count-holds zero q h = unfold digits_before in h
count-holds (suc f) q h =
    elim (ℕ_discrete q 0) [
      | yes e ↦ rw (e, count_none (suc f)) (omega arith)
      | no n ↦ rw (count-one f q (omega arith), add-one, pow-suc) (omega (arith, count-holds f (q / 128) (digits_fewer f q h)))
    ]

count_reached : (f q : ℕ) → q < 128 ^ f → 0 < q → 128 ^ digit_count f q ≤ q * 128
count_reached zero q h pos = absurd (omega arith)
count_reached (suc f) q h pos =
    rw (count-one f q pos, add-one, pow-suc)
    (elim (ℕ_discrete (q / 128) 0) [
      | yes e ↦ rw (e, count_none f) (omega arith)
      | no n ↦ omega (arith, count_reached f (q / 128) (digits_fewer f q h) (omega arith))
    ])

-- ---- how many bytes the whole varint takes

pub spell_length : (v : ℕ) → length (spell_varint v) ≡ digit_count 10 (v / 128) + 1
unfolding spell_varint
spell_length v = count-before 10 (v / 128) (v % 128)

-- n + 1 digits hold v, and n do not; a varint has one digit at least
abbrev pub Fewest : ℕ → ℕ → Type 0
Fewest n v = (v < 128 ^ (n + 1)) × (0 < n → 128 ^ n ≤ v)

reached : (n v : ℕ) → (0 < n → 128 ^ n ≤ v) → 128 ^ n ≤ v / 128 * 128 + 127
reached zero v h = omega arith
reached (suc n) v h = omega (arith, h (omega arith))

pub spell_width : (n v : ℕ) → v < 2 ^ 64 → Fewest n v → n + 1 ≡ length (spell_varint v)
spell_width n v h w =
    let top : v < 128 ^ suc n = rw add-one at w.0 in
    sym (spell_length v ∙ ap (λ (k : ℕ). k + 1) (count_is 10 n (v / 128) (omega arith) (digits_fewer n v top) (reached n v w.1)))

width_least : (n v : ℕ) → v < 2 ^ 64 → n + 1 ≡ length (spell_varint v) → Fewest n v
width_least n v h e =
    let same : digit_count 10 (v / 128) ≡ n = omega (arith, spell_length v) in
    let top : v / 128 < 128 ^ n = rw same at (count-holds 10 (v / 128) (omega arith)) in (
      rw (add-one, pow-suc) (omega arith),
      λ pos. elim (ℕ_discrete (v / 128) 0) [
        | yes z ↦ absurd (omega (arith, ap (digit_count 10) z ∙ count_none 10))
        | no z ↦ let most : 128 ^ n ≤ v / 128 * 128 = rw same at (count_reached 10 (v / 128) (omega arith) (omega arith)) in omega arith
      ],
    )

-- "as few digits as possible": a spelling has n + 1 bytes just when n + 1 digits are needed
pub as_few_as_possible : (n v : ℕ) → v < 2 ^ 64 → (n + 1 ≡ length (spell_varint v) → Fewest n v) × (Fewest n v → n + 1 ≡ length (spell_varint v))
as_few_as_possible n v h = (width_least n v h, spell_width n v h)

pub spell_short : (v : ℕ) → length (spell_varint v) ≤ 11
spell_short v = omega (arith, spell_length v, count_most 10 (v / 128))

pub spell_small : (v : ℕ) → v < 128 → length (spell_varint v) ≡ 1
spell_small v h = sym (spell_width 0 v (omega arith) (omega arith))
