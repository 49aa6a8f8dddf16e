-- Laws of the blocks of a padded message, and of the bytes in which words are written. Assumes nothing.
use Rattle.std.proofs.Common.{◌≡◌, ℕ, zero, suc, ◌+◌, ◌-◌, ◌*◌, ◌/◌, ◌%◌, ◌^◌, ◌<◌, ◌≤◌, List, [], ◌∷◌, ◌++◌, length, get_or, take, drop, set, replicate, refl, sym, ap, ◌∙◌, ap₂, append_assoc, add-one, arith, length-append, length-drop, drop-drop, take_at, w32, w64}
use Rattle.std.proofs.lemmas.List.{set_at, take-append-le, drop-append-le, length-replicate, drop-replicate, replicate-append-replicate}
use Rattle.std.proofs.lemmas.Slice.{take-put_mid}
use Rattle.std.specs.Int.{to_be_bytes}
use Rattle.std.specs.Simd.{first_chunks}
use borrow.Rule.Slice.PartMut.{put_mid}
use Rattle.sha256.specs.Fips180.{Value, compress, block, blocks, bytes4, bytes8, zeros, padding, pad, value_bytes}
use Rattle.sha256.specs.Private.{rest, value_of}
use Rattle.sha256.proofs.Rounds.{chunk_at}

-- ---- bytes of words

-- the eight bytes of a length
bytes8_be : (n : ℕ) → to_be_bytes w64 n ≡ bytes8 n
bytes8_be n =
    let b₀ : n / 2 ^ 56 % 256 ≡ n / 2 ^ 32 / 2 ^ 24 % 256 = omega arith in
    let b₁ : n / 2 ^ 48 % 256 ≡ n / 2 ^ 32 / 2 ^ 16 % 256 = omega arith in
    let b₂ : n / 2 ^ 40 % 256 ≡ n / 2 ^ 32 / 2 ^ 8 % 256 = omega arith in
    let b₄ : n / 2 ^ 24 % 256 ≡ n % 2 ^ 32 / 2 ^ 24 % 256 = omega arith in
    let b₅ : n / 2 ^ 16 % 256 ≡ n % 2 ^ 32 / 2 ^ 16 % 256 = omega arith in
    let b₆ : n / 2 ^ 8 % 256 ≡ n % 2 ^ 32 / 2 ^ 8 % 256 = omega arith in
    let b₇ : n % 256 ≡ n % 2 ^ 32 % 256 = omega arith in
    cc

-- the bytes of the first n words of s
unfoldable pub word_bytes : ℕ → List ℕ → List ℕ
word_bytes zero s = []
word_bytes (suc n) s = word_bytes n s ++ bytes4 (get_or s n 0)

pub all_words : (s : List ℕ) → word_bytes 8 s ≡ value_bytes (value_of s)
unfolding word_bytes
all_words s = refl

-- a turn of the loop that writes them
pub words_more : (out s ys : List ℕ) (i k : ℕ) → take (4 * i) out ≡ word_bytes i s → 4 * i ≤ length out → ys ≡ to_be_bytes w32 (get_or s i 0)
    → take (4 * (i + 1)) (put_mid (4 * i) k out ys) ≡ word_bytes (i + 1) s
unfolding word_bytes
words_more out s ys i k h l e =
    let n : 4 * (i + 1) ≡ 4 * i + length ys = omega (arith, ap length e) in
    let next : word_bytes (i + 1) s ≡ word_bytes i s ++ bytes4 (get_or s i 0) = rw add-one refl in
    take-put_mid (4 * i) k out ys (4 * (i + 1)) n l ∙ ap₂ (λ (u v : List ℕ). u ++ v) h e ∙ sym next

-- ---- lengths

abbrev whole : List ℕ → ℕ
whole m = length m / 64 * 64

abbrev length_bytes : List ℕ → List ℕ
length_bytes m = bytes8 (length m * 8 % 2 ^ 64)

length-padding : (m : List ℕ) → length (padding (length m)) ≡ 9 + zeros (length m)
unfolding padding
length-padding m =
    let z : ℕ = zeros (length m) in
    let e : length (replicate z 0 ++ length_bytes m) ≡ z + 8 = length-append (replicate z 0) (length_bytes m) ∙ ap (λ (n : ℕ). n + 8) (length-replicate z 0) in
    ap suc e ∙ omega arith

length-pad : (m : List ℕ) → length (pad m) ≡ length m + 9 + zeros (length m)
unfolding pad
length-pad m = length-append m (padding (length m)) ∙ ap (λ (n : ℕ). length m + n) (length-padding m) ∙ omega arith

pub length_rest : (m : List ℕ) → length (rest m) ≡ length m % 64 + 9 + zeros (length m)
unfolding rest
length_rest m = length-drop (whole m) (pad m) ∙ ap (λ (n : ℕ). n - whole m) (length-pad m) ∙ omega arith

-- `zeros n` is what 5.1.1 asks: after n bytes, the byte of the bit 1 and that many zeros, 56 bytes of a block are filled, and no fewer do it
pub zeros_fill : (n : ℕ) → (n + 1 + zeros n) % 64 ≡ 56
zeros_fill n = omega arith

pub zeros-least : (n z : ℕ) → (n + 1 + z) % 64 ≡ 56 → zeros n ≤ z
zeros-least n z h = omega arith

-- ---- blocks

-- one more block, where bs are the n blocks of p after the first k
pub block_more : (k i n : ℕ) (p : List ℕ) (bs : List (List ℕ)) (u r : Value) → bs ≡ first_chunks 64 n (drop (k * 64) p) → i < n → u ≡ blocks (k + i) p
    → r ≡ compress u (get_or bs i []) → r ≡ blocks (k + (i + 1)) p
unfolding blocks
block_more k i n p bs u r e h q s =
    let next : k + (i + 1) ≡ suc (k + i) = omega arith in
    let at : k * 64 + i * 64 ≡ (k + i) * 64 = omega arith in
    let b : get_or bs i [] ≡ block (k + i) p =
    ap (λ (l : List (List ℕ)). get_or l i []) e ∙ chunk_at 64 n i (drop (k * 64) p) h
    ∙ ap (take 64) (drop-drop (i * 64) (k * 64) p ∙ ap (λ (j : ℕ). drop j p) at) in
    rw next (s ∙ ap₂ compress q b)

-- what stands behind the first k blocks does not count
chunks-front : (k : ℕ) (m p : List ℕ) → k * 64 ≤ length m → first_chunks 64 k (m ++ p) ≡ first_chunks 64 k m
chunks-front zero m p h = refl
chunks-front (suc k) m p h =
    let l : k * 64 ≤ length (drop 64 m) = simp length-drop (omega arith) in
    ap₂ (λ (b : List ℕ) (bs : List (List ℕ)). b ∷ bs) (take-append-le 64 m p (omega arith))
    (ap (first_chunks 64 k) (drop-append-le 64 m p (omega arith)) ∙ chunks-front k (drop 64 m) p l)

-- the whole blocks of m are those of its padded form
pub whole_chunks : (m : List ℕ) → first_chunks 64 (length m / 64) m ≡ first_chunks 64 (length m / 64) (pad m)
unfolding pad
whole_chunks m = sym (chunks-front (length m / 64) m (padding (length m)) (omega arith))

-- how many blocks the padded form of m has
pub count_blocks : (m : List ℕ) → length m / 64 + length (rest m) / 64 ≡ length (pad m) / 64
count_blocks m = omega (arith, length_rest m, length-pad m)

rest_is : (m : List ℕ) → rest m ≡ drop (whole m) m ++ (128 ∷ replicate (zeros (length m)) 0 ++ length_bytes m)
unfolding rest pad padding
rest_is m = drop-append-le (whole m) m (padding (length m)) (omega arith)

-- the message's last bytes and the byte 128 at the front of zeros
marked : (tail : List ℕ) (k z y : ℕ) → k ≡ length tail + suc (z + y)
    → set (tail ++ drop (length tail) (replicate k 0)) (length tail) 128 ≡ (tail ++ 128 ∷ replicate z 0) ++ replicate y 0
marked tail k z y h =
    let n : k - length tail ≡ suc (z + y) = omega arith in
    rw (drop-replicate {X = ℕ} (length tail) k 0, n, ← replicate-append-replicate {A = ℕ} z y 0)
    (set_at tail 0 (replicate z 0 ++ replicate y 0) 128 (length tail) refl ∙ sym (append_assoc tail (128 ∷ replicate z 0) (replicate y 0)))

-- the same with the length stored behind the zeros of the padding
pub rest_law : (m tail ys : List ℕ) (k end w : ℕ) → tail ≡ drop (whole m) m → end ≡ length (rest m) → end ≤ k → ys ≡ to_be_bytes w64 (length m * 8 % 2 ^ 64)
    → take end (put_mid (end - 8) w (set (tail ++ drop (length tail) (replicate k 0)) (length tail) 128) ys) ≡ rest m
rest_law m tail ys k end w p e h q =
    let z : ℕ = zeros (length m) in
    let y : ℕ = k - 1 - length tail - z in
    let f : List ℕ = tail ++ 128 ∷ replicate z 0 in
    let lt : length tail ≡ length m % 64 = ap length p ∙ length-drop (whole m) m ∙ omega arith in
    let lr : end ≡ length tail + 9 + z = omega (arith, length_rest m) in
    let lf : length f ≡ end - 8 = length-append tail (128 ∷ replicate z 0) ∙ ap (λ (n : ℕ). length tail + suc n) (length-replicate z 0) ∙ omega arith in
    let n : end ≡ end - 8 + length ys = omega (arith, ap length q) in
    let l : end - 8 ≤ length (f ++ replicate y 0) = omega (arith, length-append f (replicate y 0)) in
    rw (marked tail k z y (omega arith))
    (take-put_mid (end - 8) w (f ++ replicate y 0) ys end n l
    ∙ ap₂ (λ (u v : List ℕ). u ++ v) (take_at f (replicate y 0) (end - 8) lf) (q ∙ bytes8_be (length m * 8 % 2 ^ 64))
    ∙ append_assoc tail (128 ∷ replicate z 0) (length_bytes m) ∙ ap (λ (u : List ℕ). u ++ (128 ∷ replicate z 0 ++ length_bytes m)) p ∙ sym (rest_is m))
