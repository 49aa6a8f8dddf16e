-- Laws of the schedule and the rounds. Assumes nothing.
use Rattle.std.proofs.Common.{◌≡◌, ℕ, zero, suc, ◌+◌, ◌-◌, ◌*◌, ◌<◌, ◌≤◌, List, [], ◌∷◌, ◌++◌, length, get_or, take, drop, set, sym, ap, ◌∙◌, ap₂, add-one, add-zero, arith, drop-drop, length-take-le, get_or-drop, get_or-take, take-suc-set, w32}
use Rattle.std.specs.Int.{from_be_bytes}
use Rattle.std.specs.Simd.{first_chunks}
use Rattle.sha256.specs.Fips180.{◌⊞◌, σ₀, σ₁, K, Value, round, rounds, next, extend, word_at, words}

-- one more round
pub round-more : (t : ℕ) (ws : List ℕ) (u v r : Value) → u ≡ rounds t ws v → r ≡ round (get_or K t 0) (get_or ws t 0) u → r ≡ rounds (t + 1) ws v
unfolding rounds
round-more t ws u v r p q = rw (add-one t) (cc)

-- chunk i of n bytes
pub chunk_at : (n k i : ℕ) (xs : List ℕ) → i < k → get_or (first_chunks n k xs) i [] ≡ take n (drop (i * n) xs)
chunk_at n zero i xs h = absurd (omega arith)
chunk_at n (suc k) zero xs h =
    let e : 0 ≡ 0 * n = omega arith in
    ap (λ (j : ℕ). take n (drop j xs)) e
chunk_at n (suc k) (suc i) xs h =
    let e : n + i * n ≡ suc i * n = omega arith in
    chunk_at n k i (drop n xs) (omega arith) ∙ ap (take n) (drop-drop (i * n) n xs ∙ ap (λ (j : ℕ). drop j xs) e)

-- a word of a block
pub word_of : (m : List ℕ) (at : ℕ) → from_be_bytes w32 (take 4 (drop at m)) ≡ word_at m at
word_of m at =
    let e : (k : ℕ) → k < 4 → get_or (take 4 (drop at m)) k 0 ≡ get_or m (at + k) 0 =
    λ k l. get_or-take 4 (drop at m) k 0 l ∙ get_or-drop at m k 0 in
    rw (e 0 (omega arith), e 1 (omega arith), e 2 (omega arith), e 3 (omega arith), add-zero)

-- a turn of the loop that reads the block's words
pub word_more : (w m : List ℕ) (t k : ℕ) → t < length w → t < k → take t w ≡ words t m
    → take (t + 1) (set w t (from_be_bytes w32 (get_or (first_chunks 4 k m) t []))) ≡ words (t + 1) m
unfolding words
word_more w m t k h b p =
    rw (add-one, chunk_at 4 k t m b)
    (take-suc-set w t (from_be_bytes w32 (take 4 (drop (t * 4) m))) h ∙ ap₂ (λ (l : List ℕ) (x : ℕ). l ++ x ∷ []) p (word_of m (t * 4)))

-- the word of the schedule after the first t words of w
pub next_at : (w : List ℕ) (t : ℕ) → 16 ≤ t → t ≤ length w
    → next (take t w) ≡ σ₁ (get_or w (t - 2) 0) ⊞ get_or w (t - 7) 0 ⊞ σ₀ (get_or w (t - 15) 0) ⊞ get_or w (t - 16) 0
unfolding next
next_at w t h l =
    rw (length-take-le t w l)
    (rw (get_or-take t w (t - 2) 0 (omega arith), get_or-take t w (t - 7) 0 (omega arith), get_or-take t w (t - 15) 0 (omega arith), get_or-take t w (t - 16) 0 (omega arith)))

-- a turn of the loop that extends the schedule
pub next_more : (w l : List ℕ) (t r : ℕ) → 16 ≤ t → t < length w → take t w ≡ extend (t - 16) l
    → r ≡ σ₁ (get_or w (t - 2) 0) ⊞ get_or w (t - 7) 0 ⊞ σ₀ (get_or w (t - 15) 0) ⊞ get_or w (t - 16) 0
    → take (t + 1) (set w t r) ≡ extend (t + 1 - 16) l
unfolding extend
next_more w l t r b h p q =
    let e : t + 1 - 16 ≡ suc (t - 16) = omega arith in
    rw (e, add-one t)
    (take-suc-set w t r h ∙ ap₂ (λ (m : List ℕ) (x : ℕ). m ++ x ∷ []) p (q ∙ sym (next_at w t b (omega arith)) ∙ ap next p))
