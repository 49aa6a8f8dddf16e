-- The order of keys is the order of bounds: time, then the bytes of the prefix from the first.
use Prim.Native.Nat.{ℕ, zero, suc, ◌+◌, ◌*◌, ◌-◌, ◌^◌, ◌<◌, ◌≤◌}
use mathlib.Core.Path.{◌≡◌, refl, sym, ◌∙◌}
use mathlib.Core.Bool.{true, false, cond}
use mathlib.Core.List.{List, [], ◌∷◌}
use native.Mathlib.Omega.{arith}
use native.Mathlib.Nat.{pow-suc, mul-le-mul_right}
use native.Mathlib.Numerals.{add-one}
use native.Mathlib.Decide.{dec_lt, ℕ_discrete}
use lib.Dec.{ltb, eqb}
use lib.ListN.{length, take, drop, get_or, drop_of_length-le, get_or-eq_default}
use lib.Seq.{drop-cons, get_or-take, get_or-drop}
use borrow.Author.Tests.{lt-ltb, le-ltb, eq-eqb, ne_eqb}
use Rattle.message.specs.Bound.{Bound, infinity, finite, bytes_below, below, time, prefix, big_endian, id_space, key}
use Rattle.message.specs.WellFormed.{Bytes, LawfulBound}

-- ---- two digits: the higher one decides

pub digit_lt : (s x y a b : ℕ) → x < y → a < s → ltb (x * s + a) (y * s + b) ≡ true
digit_lt s x y a b h l = let top : suc x * s ≤ y * s = mul-le-mul_right s h in lt-ltb (x * s + a) (y * s + b) (omega arith)

pub digit_gt : (s x y a b : ℕ) → y < x → b < s → ltb (x * s + a) (y * s + b) ≡ false
digit_gt s x y a b h l = let top : suc y * s ≤ x * s = mul-le-mul_right s h in le-ltb (x * s + a) (y * s + b) (omega arith)

pub digit-same : (z a b : ℕ) → ltb (z + a) (z + b) ≡ ltb a b
digit-same z a b =
    elim (dec_lt a b) [
      | yes h ↦ lt-ltb (z + a) (z + b) (omega arith) ∙ sym (lt-ltb a b h)
      | no h ↦ le-ltb (z + a) (z + b) (omega arith) ∙ sym (le-ltb a b (omega arith))
    ]

digits : (s x y a b : ℕ) → a < s → b < s → ltb (x * s + a) (y * s + b) ≡ cond (ltb x y) true (cond (eqb x y) (ltb a b) false)
digits s x y a b ha hb =
    elim (dec_lt x y) [
      | yes l ↦ rw (digit_lt s x y a b l ha, lt-ltb x y l) refl
      | no n ↦
          elim (ℕ_discrete x y) [
            | yes e ↦ rw (le-ltb x y (omega arith), eq-eqb x y e, e) (digit-same (y * s) a b)
            | no d ↦ rw (digit_gt s x y a b (omega arith) hb, le-ltb x y (omega arith), ne_eqb x y d) refl
          ]
    ]

-- ---- bytes, at every place

abbrev pub Small : List ℕ → Type 0
Small l = (k : ℕ) → get_or l k 0 < 256

pub bytes_small : (l : List ℕ) → Bytes l → Small l
bytes_small [] h k = omega arith
bytes_small (b ∷ l) h zero = h.0
bytes_small (b ∷ l) h (suc k) = bytes_small l h.1 k

pub small_bytes : (l : List ℕ) → Small l → Bytes l
small_bytes [] h = tt
small_bytes (b ∷ l) h = (h 0, small_bytes l (λ k. h (suc k)))

pub small-drop : (i : ℕ) (l : List ℕ) → Small l → Small (drop i l)
small-drop i l h k = rw (get_or-drop i l k 0) (h (i + k))

past_take : (n : ℕ) (l : List ℕ) (i : ℕ) → n ≤ i → get_or (take n l) i 0 ≡ 0
past_take zero l i h = refl
past_take (suc n) [] i h = refl
past_take (suc n) (x ∷ l) zero h = absurd (omega arith)
past_take (suc n) (x ∷ l) (suc i) h = past_take n l i (omega arith)

pub small-take : (n : ℕ) (l : List ℕ) → Small l → Small (take n l)
small-take n l h k =
    elim (dec_lt k n) [
      | yes e ↦ rw (get_or-take n l k 0 e) (h k)
      | no e ↦ rw (past_take n l k (omega arith)) (omega arith)
    ]

-- ---- the number of a prefix

big_endian-none : (n : ℕ) → big_endian n [] ≡ 0
unfolding big_endian
big_endian-none zero = refl
big_endian-none (suc n) = refl

big_endian_step : (n : ℕ) (l : List ℕ) (i : ℕ) → big_endian (suc n) (drop i l) ≡ get_or l i 0 * 256 ^ n + big_endian n (drop (i + 1) l)
unfolding big_endian
big_endian_step n l i =
    elim (dec_lt i (length l)) [
      | yes h ↦ rw (drop-cons l i 0 h, add-one) refl
      | no h ↦
          rw (drop_of_length-le l {i = i} (omega arith), drop_of_length-le l {i = i + 1} (omega arith), get_or-eq_default l 0 {n = i} (omega arith), big_endian-none n) (omega arith)
    ]

pub big_endian-small : (n : ℕ) (l : List ℕ) → Small l → big_endian n l < 256 ^ n
unfolding big_endian
big_endian-small zero l h = omega arith
big_endian-small (suc n) [] h = rw pow-suc (omega (arith, big_endian-small n [] h))
big_endian-small (suc n) (b ∷ l) h =
    let top : suc b * 256 ^ n ≤ 256 * 256 ^ n = mul-le-mul_right (256 ^ n) (h 0) in
    rw pow-suc (omega (arith, big_endian-small n l (λ k. h (suc k))))

pub id-small : (l : List ℕ) → Small l → big_endian 32 l < id_space
unfolding id_space
id-small l h = big_endian-small 32 l h

-- ---- byte by byte

bytes-order : (n : ℕ) (p q : List ℕ) → Small p → Small q → ltb (big_endian n p) (big_endian n q) ≡ bytes_below n p q
unfolding bytes_below big_endian
bytes-order zero p q hp hq = refl
bytes-order (suc n) p q hp hq =
    rw (big_endian_step n p 0, big_endian_step n q 0, ← bytes-order n (drop 1 p) (drop 1 q) (small-drop 1 p hp) (small-drop 1 q hq))
    (digits (256 ^ n) (get_or p 0 0) (get_or q 0 0) _ _ (big_endian-small n (drop 1 p) (small-drop 1 p hp)) (big_endian-small n (drop 1 q) (small-drop 1 q hq)))

-- ---- bounds

pub key-finite : (t : ℕ) (p : List ℕ) → key (finite t p) ≡ t * id_space + big_endian 32 p
unfolding key
key-finite t p = refl

key-infinity : key infinity ≡ (2 ^ 64 - 1) * id_space + big_endian 32 []
unfolding key
key-infinity = refl

pub key-parts : (b : Bound) → key (finite (time b) (prefix b)) ≡ key b
unfolding key
key-parts infinity = refl
key-parts (finite t p) = refl

-- the time decides, and among equal times the prefix
module _ (t u : ℕ) (p q : List ℕ) where
  pub key_less : Small p → t < u → ltb (key (finite t p)) (key (finite u q)) ≡ true
  key_less h l = rw (key-finite t p, key-finite u q) (digit_lt id_space t u _ _ l (id-small p h))

  pub key_more : Small q → u < t → ltb (key (finite t p)) (key (finite u q)) ≡ false
  key_more h l = rw (key-finite t p, key-finite u q) (digit_gt id_space t u _ _ l (id-small q h))

  pub key-same : t ≡ u → ltb (key (finite t p)) (key (finite u q)) ≡ ltb (big_endian 32 p) (big_endian 32 q)
  key-same e = rw (key-finite t p, key-finite u q, e) (digit-same (u * id_space) (big_endian 32 p) (big_endian 32 q))

-- The order of keys is the order by time, then byte by byte.
pub keys_order : (a b : Bound) → LawfulBound a → LawfulBound b → ltb (key a) (key b) ≡ below a b
unfolding below
keys_order infinity infinity ha hb = le-ltb (key infinity) (key infinity) (omega arith)
keys_order infinity (finite u q) ha hb =
    rw (key-infinity, key-finite u q) (digit_gt id_space (2 ^ 64 - 1) u _ _ (omega arith) (id-small q (bytes_small q hb.2)))
keys_order (finite t p) infinity ha hb =
    rw (key-infinity, key-finite t p) (digit_lt id_space t (2 ^ 64 - 1) _ _ (omega arith) (id-small p (bytes_small p ha.2)))
keys_order (finite t p) (finite u q) ha hb =
    let sp = bytes_small p ha.2 in
    let sq = bytes_small q hb.2 in
    rw (key-finite t p, key-finite u q, ← bytes-order 32 p q sp sq) (digits id_space t u _ _ (id-small p sp) (id-small q sq))

-- ---- for the loop that compares: i bytes are equal so far

module _ (p q : List ℕ) (i : ℕ) (sp : Small p) (sq : Small q) where
  left : i < 32 → 32 - i ≡ suc (32 - (i + 1))
  left h = omega arith

  step : (n : ℕ)
      → ltb (big_endian (suc n) (drop i p)) (big_endian (suc n) (drop i q)) ≡ ltb (get_or p i 0 * 256 ^ n + big_endian n (drop (i + 1) p)) (get_or q i 0 * 256 ^ n + big_endian n (drop (i + 1) q))
  step n = rw (big_endian_step n p i, big_endian_step n q i) refl

  tail : (n : ℕ) (l : List ℕ) → Small l → big_endian n (drop (i + 1) l) < 256 ^ n
  tail n l h = big_endian-small n (drop (i + 1) l) (small-drop (i + 1) l h)

  pub less_here : i < 32 → get_or p i 0 < get_or q i 0 → ltb (big_endian (32 - i) (drop i p)) (big_endian (32 - i) (drop i q)) ≡ true
  less_here h l = rw (left h) (step (32 - (i + 1)) ∙ digit_lt _ _ _ _ _ l (tail (32 - (i + 1)) p sp))

  pub more-here : i < 32 → get_or q i 0 < get_or p i 0 → ltb (big_endian (32 - i) (drop i p)) (big_endian (32 - i) (drop i q)) ≡ false
  more-here h l = rw (left h) (step (32 - (i + 1)) ∙ digit_gt _ _ _ _ _ l (tail (32 - (i + 1)) q sq))

  pub same_here : i < 32 → get_or q i 0 ≤ get_or p i 0 → get_or p i 0 ≤ get_or q i 0
      → ltb (big_endian (32 - i) (drop i p)) (big_endian (32 - i) (drop i q)) ≡ ltb (big_endian (32 - (i + 1)) (drop (i + 1) p)) (big_endian (32 - (i + 1)) (drop (i + 1) q))
  same_here h l u =
      let e : get_or p i 0 ≡ get_or q i 0 = omega arith in
      rw (left h) (step (32 - (i + 1)) ∙ rw e (digit-same (get_or q i 0 * 256 ^ (32 - (i + 1))) (big_endian (32 - (i + 1)) (drop (i + 1) p)) (big_endian (32 - (i + 1)) (drop (i + 1) q))))

  pub differ_here : i < 32 → (get_or p i 0 ≡ get_or q i 0 → ⊥) → ltb (get_or p i 0) (get_or q i 0) ≡ ltb (big_endian (32 - i) (drop i p)) (big_endian (32 - i) (drop i q))
  differ_here h ne =
      elim (dec_lt (get_or p i 0) (get_or q i 0)) [
        | yes l ↦ lt-ltb _ _ l ∙ sym (less_here h l)
        | no l ↦ let m : get_or q i 0 < get_or p i 0 = omega (arith, ne) in le-ltb _ _ (omega arith) ∙ sym (more-here h m)
      ]

pub none_left : (p q : List ℕ) (i : ℕ) → 32 ≤ i → ltb (big_endian (32 - i) (drop i p)) (big_endian (32 - i) (drop i q)) ≡ false
unfolding big_endian
none_left p q i h = let e : 32 - i ≡ 0 = omega arith in rw e refl
