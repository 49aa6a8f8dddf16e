-- SPEC 1.4: "A bound is infinity, which is above everything, or a time and a prefix of 0 to 32 bytes. Missing id bytes count as 00, so a bound compares as an
-- item does."
use Rattle.std.specs.Prelude.{ℕ, zero, suc, ◌+◌, ◌-◌, ◌*◌, ◌^◌, Bool, true, false, cond, List, [], ◌∷◌, ◌++◌, ltb, leb, eqb, length, drop, get_or}
use Rattle.message.specs.Reader.{Reader, ◌>>=◌, ◌>>◌, give, judge, read_bytes}
use Rattle.message.specs.Varint.{read_varint, spell_varint}

pub data Bound : Type 0 where
  infinity : Bound
  finite : ℕ → List ℕ → Bound

-- ---- the order

-- SPEC 1.2: "compared byte by byte from the first", n bytes, a missing byte 00
unfoldable pub bytes_below : ℕ → List ℕ → List ℕ → Bool
bytes_below zero p q = false
bytes_below (suc n) p q = cond (ltb (get_or p 0 0) (get_or q 0 0)) true (cond (eqb (get_or p 0 0) (get_or q 0 0)) (bytes_below n (drop 1 p) (drop 1 q)) false)

-- SPEC 1.2: "Items are ordered by time, then by id"
unfoldable pub below : Bound → Bound → Bool
below infinity b = false
below (finite t p) infinity = true
below (finite t p) (finite u q) = cond (ltb t u) true (cond (eqb t u) (bytes_below 32 p q) false)

-- The definitions compare keys, one number for each bound: `keys_order` in proofs/Order.antt shows that this is the order above.

-- no item has the time 2^64−1: it stands for infinity
abbrev pub time : Bound → ℕ
time infinity = 2 ^ 64 - 1
time (finite t p) = t

abbrev pub prefix : Bound → List ℕ
prefix infinity = []
prefix (finite t p) = p

-- the first n bytes as a number, first byte highest, a missing byte 00
unfoldable pub big_endian : ℕ → List ℕ → ℕ
big_endian zero p = 0
big_endian (suc n) [] = 0
big_endian (suc n) (b ∷ p) = b * 256 ^ n + big_endian n p

-- how many ids there are
unfoldable pub id_space : ℕ
id_space = 2 ^ 256

unfoldable pub key : Bound → ℕ
key b = time b * id_space + big_endian 32 (prefix b)

-- ---- reading

-- SPEC 3.3: "The lower bound of a range is the upper bound of the one before it; at first it is time 0 without a prefix."
abbrev pub start : Bound
start = finite 0 []

-- SPEC 7.9: "is not above its lower bound"
abbrev pub above : Bound → Bound → Reader Bound
above lower b = do
  judge 9 (ltb (key lower) (key b))
  give b

-- SPEC 8.2: "the length is read and judged, the prefix is read"; SPEC 7.9: "a prefix length above 32, a prefix at infinity"
unfoldable pub read_prefix : ℕ → Reader (List ℕ)
read_prefix most = do
  n ← read_varint
  judge 9 (leb n most)
  read_bytes n

-- SPEC 3.4: "Time code 0 is infinity. A code v above 0 is the time of the bound before it in this message (0 at first) plus v - 1." SPEC 7.9: "a finite time
-- above 2^64 - 2 (after infinity any time code above 0 counts as such)"
unfoldable pub read_coded : Bound → ℕ → Reader Bound
read_coded lower zero = do
  read_prefix 0
  above lower infinity
read_coded lower (suc v) = do
  judge 9 (leb (time lower + v) (2 ^ 64 - 2))
  p ← read_prefix 32
  above lower (finite (time lower + v) p)

-- SPEC 3.4: "A bound is spelled as a time code (a varint), the length of its prefix (a varint) and the prefix."
unfoldable pub read_bound : Bound → Reader Bound
read_bound lower = do
  code ← read_varint
  read_coded lower code

-- ---- spelling

abbrev pub time_code : Bound → Bound → ℕ
time_code lower infinity = 0
time_code lower (finite t p) = suc (t - time lower)

unfoldable pub spell_prefix : List ℕ → List ℕ
spell_prefix p = spell_varint (length p) ++ p

unfoldable pub spell_bound : Bound → Bound → List ℕ
spell_bound lower b = spell_varint (time_code lower b) ++ spell_prefix (prefix b)
