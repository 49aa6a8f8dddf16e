-- SPEC 2.5: SHA-256 of a list of bytes, as FIPS 180-4 has it: its names, in its order, the section of the standard beside each.
-- A word is a number below 2 ^ 32. Byte strings are written most significant byte first throughout (3.1). Assumes nothing.
use Rattle.std.specs.Prelude.{ℕ, zero, suc, ◌+◌, ◌-◌, ◌*◌, ◌/◌, ◌%◌, ◌^◌, List, [], ◌∷◌, ◌++◌, length, take, drop, replicate, bit_and, bit_or, bit_xor, slice_index, slice_index_or}

-- 3.1: the word that stands at index i of a byte string, and a number's low four and low eight bytes
abbrev pub word_at : List ℕ → ℕ → ℕ
word_at m i = slice_index m i * 2 ^ 24 + slice_index m (i + 1) * 2 ^ 16 + slice_index m (i + 2) * 2 ^ 8 + slice_index m (i + 3)

abbrev pub bytes4 : ℕ → List ℕ
bytes4 n = n / 2 ^ 24 % 256 ∷ n / 2 ^ 16 % 256 ∷ n / 2 ^ 8 % 256 ∷ n % 256 ∷ []

abbrev pub bytes8 : ℕ → List ℕ
bytes8 n = bytes4 (n / 2 ^ 32) ++ bytes4 (n % 2 ^ 32)

-- 3.2: addition modulo 2 ^ 32, complement, SHRⁿ(x), ROTRⁿ(x)
abbrev pub ◌⊞◌ : ℕ → ℕ → ℕ
x ⊞ y = (x + y) % 2 ^ 32

infixl 60 ◌⊞◌
abbrev pub not32 : ℕ → ℕ
not32 x = (2 ^ 32 - 1) - x

abbrev pub SHR : ℕ → ℕ → ℕ
SHR n x = x / 2 ^ n

abbrev pub ROTR : ℕ → ℕ → ℕ
ROTR n x = bit_or (x / 2 ^ n) ((x * 2 ^ (32 - n)) % 2 ^ 32)

-- 4.1.2: the functions
abbrev pub Ch : ℕ → ℕ → ℕ → ℕ
Ch x y z = bit_xor (bit_and x y) (bit_and (not32 x) z)

abbrev pub Maj : ℕ → ℕ → ℕ → ℕ
Maj x y z = bit_xor (bit_xor (bit_and x y) (bit_and x z)) (bit_and y z)

abbrev pub Σ₀ : ℕ → ℕ
Σ₀ x = bit_xor (bit_xor (ROTR 2 x) (ROTR 13 x)) (ROTR 22 x)

abbrev pub Σ₁ : ℕ → ℕ
Σ₁ x = bit_xor (bit_xor (ROTR 6 x) (ROTR 11 x)) (ROTR 25 x)

abbrev pub σ₀ : ℕ → ℕ
σ₀ x = bit_xor (bit_xor (ROTR 7 x) (ROTR 18 x)) (SHR 3 x)

abbrev pub σ₁ : ℕ → ℕ
σ₁ x = bit_xor (bit_xor (ROTR 17 x) (ROTR 19 x)) (SHR 10 x)

-- 4.2.2: the constants, the first 32 bits of the fractional parts of the cube roots of the first 64 primes
unfoldable pub K : List ℕ
K =
    0x428a_2f98 ∷ 0x7137_4491 ∷ 0xb5c0_fbcf ∷ 0xe9b5_dba5 ∷ 0x3956_c25b ∷ 0x59f1_11f1 ∷ 0x923f_82a4 ∷ 0xab1c_5ed5 ∷
    0xd807_aa98 ∷ 0x1283_5b01 ∷ 0x2431_85be ∷ 0x550c_7dc3 ∷ 0x72be_5d74 ∷ 0x80de_b1fe ∷ 0x9bdc_06a7 ∷ 0xc19b_f174 ∷
    0xe49b_69c1 ∷ 0xefbe_4786 ∷ 0x0fc1_9dc6 ∷ 0x240c_a1cc ∷ 0x2de9_2c6f ∷ 0x4a74_84aa ∷ 0x5cb0_a9dc ∷ 0x76f9_88da ∷
    0x983e_5152 ∷ 0xa831_c66d ∷ 0xb003_27c8 ∷ 0xbf59_7fc7 ∷ 0xc6e0_0bf3 ∷ 0xd5a7_9147 ∷ 0x06ca_6351 ∷ 0x1429_2967 ∷
    0x27b7_0a85 ∷ 0x2e1b_2138 ∷ 0x4d2c_6dfc ∷ 0x5338_0d13 ∷ 0x650a_7354 ∷ 0x766a_0abb ∷ 0x81c2_c92e ∷ 0x9272_2c85 ∷
    0xa2bf_e8a1 ∷ 0xa81a_664b ∷ 0xc24b_8b70 ∷ 0xc76c_51a3 ∷ 0xd192_e819 ∷ 0xd699_0624 ∷ 0xf40e_3585 ∷ 0x106a_a070 ∷
    0x19a4_c116 ∷ 0x1e37_6c08 ∷ 0x2748_774c ∷ 0x34b0_bcb5 ∷ 0x391c_0cb3 ∷ 0x4ed8_aa4a ∷ 0x5b9c_ca4f ∷ 0x682e_6ff3 ∷
    0x748f_82ee ∷ 0x78a5_636f ∷ 0x84c8_7814 ∷ 0x8cc7_0208 ∷ 0x90be_fffa ∷ 0xa450_6ceb ∷ 0xbef9_a3f7 ∷ 0xc671_78f2 ∷
    []

-- 5.1.1: padding. Behind a message of n bytes stand the bit 1, the fewest zeros that leave eight bytes of a block of 64, and in those
-- the message's length in bits. The standard has only messages of fewer than 2 ^ 64 bits; for a longer one this is the length modulo 2 ^ 64.
abbrev pub zeros : ℕ → ℕ
zeros n = (119 - n % 64) % 64

unfoldable pub padding : ℕ → List ℕ
padding n = 128 ∷ replicate (zeros n) 0 ++ bytes8 (n * 8 % 2 ^ 64)

unfoldable pub pad : List ℕ → List ℕ
pad m = m ++ padding (length m)

-- 5.2.1: block i of a padded message, counted from 0
abbrev pub block : ℕ → List ℕ → List ℕ
block i m = take 64 (drop (i * 64) m)

-- a hash value H₀ .. H₇, and the eight working variables, both as a .. h
pub record Value : Type 0 where
  pub a : ℕ
  pub b : ℕ
  pub c : ℕ
  pub d : ℕ
  pub e : ℕ
  pub f : ℕ
  pub g : ℕ
  pub h : ℕ

-- 5.3.3: the initial hash value
abbrev pub initial : Value
initial =
    record { a = 0x6a09_e667; b = 0xbb67_ae85; c = 0x3c6e_f372; d = 0xa54f_f53a; e = 0x510e_527f; f = 0x9b05_688c; g = 0x1f83_d9ab; h = 0x5be0_cd19 }

-- 6.2.2, step 1: the message schedule of a block. Its first sixteen words are the block's; `next` is the word after those in ws.
unfoldable pub words : ℕ → List ℕ → List ℕ
words zero m = []
words (suc n) m = words n m ++ word_at m (n * 4) ∷ []

unfoldable pub next : List ℕ → ℕ
next ws =
    let t = length ws in
    σ₁ (slice_index ws (t - 2)) ⊞ slice_index_or ws (t - 7) 0 ⊞ σ₀ (slice_index ws (t - 15)) ⊞ slice_index_or ws (t - 16) 0

unfoldable pub extend : ℕ → List ℕ → List ℕ
extend zero ws = ws
extend (suc n) ws = extend n ws ++ next (extend n ws) ∷ []

unfoldable pub schedule : List ℕ → List ℕ
schedule m = extend 48 (words 16 m)

-- steps 2 and 3: a round with its constant and its word of the schedule, and the first t rounds over the schedule ws
unfoldable pub T₁ : ℕ → ℕ → Value → ℕ
T₁ k w v = v.h ⊞ Σ₁ v.e ⊞ Ch v.e v.f v.g ⊞ k ⊞ w

unfoldable pub T₂ : Value → ℕ
T₂ v = Σ₀ v.a ⊞ Maj v.a v.b v.c

unfoldable pub round : ℕ → ℕ → Value → Value
round k w v =
    record { a = T₁ k w v ⊞ T₂ v; b = v.a; c = v.b; d = v.c; e = v.d ⊞ T₁ k w v; f = v.e; g = v.f; h = v.g }

unfoldable pub rounds : ℕ → List ℕ → Value → Value
rounds zero ws v = v
rounds (suc t) ws v = round (slice_index K t) (slice_index ws t) (rounds t ws v)

-- step 4: the next hash value, and the hash value after the first n blocks of m
unfoldable pub plus : Value → Value → Value
plus u v =
    record { a = u.a ⊞ v.a; b = u.b ⊞ v.b; c = u.c ⊞ v.c; d = u.d ⊞ v.d; e = u.e ⊞ v.e; f = u.f ⊞ v.f; g = u.g ⊞ v.g; h = u.h ⊞ v.h }

unfoldable pub compress : Value → List ℕ → Value
compress v m = plus v (rounds 64 (schedule m) v)

unfoldable pub blocks : ℕ → List ℕ → Value
blocks zero m = initial
blocks (suc n) m = compress (blocks n m) (block n m)

-- 6.2.2, after the last block: the message digest
abbrev pub value_bytes : Value → List ℕ
value_bytes v =
    bytes4 v.a ++ bytes4 v.b ++ bytes4 v.c ++ bytes4 v.d ++ bytes4 v.e ++ bytes4 v.f ++ bytes4 v.g ++ bytes4 v.h

unfoldable pub digest : List ℕ → List ℕ
digest m = value_bytes (blocks (length (pad m) / 64) (pad m))
