-- For contracts of functions that only our own crates call: the smallest of the ids `all` that a reply adds, within the limits f.
use Rattle.std.specs.Prelude.{ℕ, zero, suc, ◌+◌, ◌-◌, ◌*◌, ◌^◌, ◌≤◌, ◌<◌, ◌≡◌, Bool, true, cond, Option, Some, None, ◌&&◌, ◌||◌, List, [], ◌∷◌, map, ◌⊎◌, leb, ltb, length, take, drop, get_or}
use Rattle.message.specs.Bound.{big_endian}
use Rattle.theory.specs.Table.{has}
use Rattle.ends.specs.Lists.{some, same}
use Rattle.idlist.specs.Positions.{key_at, Pointing, KeysRise}
use Rattle.index.specs.Sorting.{Heap, Worded}
use Rattle.window.specs.declared.Interval.{Interval}
use Rattle.window.specs.declared.Window.{Window}

-- how many ids begin with the same eight bytes
unfoldable pub word_span : ℕ
word_span = 256 ^ 24

-- the numbers from `from` on that are below `to`
pub record Limits : Type 0 where
  pub from : ℕ
  pub to : ℕ

abbrev pub Within : Limits → ℕ → Type 0
Within f x = (f.from ≤ x) × (x < f.to)

-- the number behind that of the id at a place, or n where no place is given
abbrev pub behind_or : ℕ → Option ℕ → List ℕ → ℕ
behind_or n None m = n
behind_or n (Some p) m = suc (big_endian 32 (drop p m))

-- those of the ids that a window may have
abbrev pub limits : Interval → List ℕ → Limits
limits i m = record {
  from = behind_or (i.low * word_span) i.floor m;
  to = behind_or ((i.last + 1) * word_span) i.ceiling m;
}

-- whole ids stand at the places `floor` and `ceiling` where there are any
pub record Floored (i : Interval) (m : List ℕ) : Type 0 where
  pub floor : (p : ℕ) → i.floor ≡ Some p → p + 32 ≤ length m
  pub ceiling : (p : ℕ) → i.ceiling ≡ Some p → p + 32 ≤ length m

-- the interval r is i, or the part of i up to one of its ids
pub record Capped (m : List ℕ) (i r : Interval) : Type 0 where
  pub floored : Floored r m
  pub from : (limits r m).from ≡ (limits i m).from
  pub whole : r.ceiling ≡ None → (limits r m).to ≡ (limits i m).to
  pub part : (p : ℕ) → r.ceiling ≡ Some p → Within (limits i m) (big_endian 32 (drop p m))

-- whether the number x belongs to the n smallest within the limits f: there is room, or it is below the largest
abbrev pub wants : Limits → ℕ → ℕ → ℕ → Bool
wants f x n largest = ltb x f.to && (leb f.from x && (ltb n 11008 || ltb x largest))

-- the number x is that of one of the first n places, or there is no room for it: it is at least `largest`
pub data Held (m pos : List ℕ) (n largest : ℕ) (full : Type 0) (x : ℕ) : Type 0 where
  among : (k : ℕ) → k < n → key_at m pos k ≡ x → Held m pos n largest full x
  beyond : full → largest ≤ x → Held m pos n largest full x

-- the n smallest, with their words, in a heap where there is no more room
pub record Gathered (m : List ℕ) (all : List (List ℕ)) (f : Limits) (words pos : List ℕ) (n : ℕ) : Type 0 where
  pub few : n ≤ 11008
  pub points : Pointing m pos n
  pub worded : Worded m words pos n
  pub heap : n ≡ 11008 → Heap m pos 0 n
  pub from : (k : ℕ) → k < n → Within f (key_at m pos k) × (has (key_at m pos k) (map (big_endian 32) all) ≡ true)
  pub holds : (x : ℕ) → has x (map (big_endian 32) all) ≡ true → Within f x → Held m pos n (key_at m pos 0) (n ≡ 11008) x

-- a window: its ids rise strictly, and are all that there are up to its last, or all where it is not full
pub record Windowed (m : List ℕ) (all : List (List ℕ)) (f : Limits) (pos : List ℕ) (w : Window) : Type 0 where
  pub few : w.count ≤ 11008
  pub some : w.full ≡ true → 0 < w.count
  pub points : Pointing m pos w.count
  pub rises : KeysRise m pos w.count
  pub from : (k : ℕ) → k < w.count → Within f (key_at m pos k) × (has (key_at m pos k) (map (big_endian 32) all) ≡ true)
  pub holds : (x : ℕ) → has x (map (big_endian 32) all) ≡ true → Within f x → Held m pos w.count (key_at m pos (w.count - 1)) (w.full ≡ true) x

-- the ids at the first n places are within the limits f
abbrev pub Inside : Limits → List ℕ → List ℕ → ℕ → Type 0
Inside f m pos n = (k : ℕ) → k < n → Within f (key_at m pos k)

-- whole ids stand at n places, with their words, in a heap where there is no more room
pub record Placed (m words pos : List ℕ) (n : ℕ) : Type 0 where
  pub few : n ≤ 11008
  pub points : Pointing m pos n
  pub worded : Worded m words pos n
  pub heap : n ≡ 11008 → Heap m pos 0 n

-- the place p has joined n others, or has taken the place of the first of them where there was no more room
pub record Offered (m before : List ℕ) (n p : ℕ) (words after : List ℕ) (r : ℕ) : Type 0 where
  pub placed : Placed m words after r
  pub room : n < 11008 → r ≡ n + 1
  pub full : n ≡ 11008 → r ≡ 11008
  pub joined : (j : ℕ) × (j < r) × (get_or after j 0 ≡ p)
  pub from : (k : ℕ) → k < r → (get_or after k 0 ≡ p) ⊎ ((j : ℕ) × (j < n) × (get_or before j 0 ≡ get_or after k 0))
  pub kept : (k : ℕ) → k < n → ((j : ℕ) × (j < r) × (get_or after j 0 ≡ get_or before k 0)) ⊎ ((n ≡ 11008) × (k ≡ 0))

-- the ids at the first n of some places, the last of them first
unfoldable pub picked_at : List ℕ → List ℕ → ℕ → List (List ℕ)
picked_at m picks zero = []
picked_at m picks (suc n) = take 32 (drop (get_or picks n 0) m) ∷ picked_at m picks n

-- whole ids stand at the first n of some places, and their bytes one after the other in `ids`
pub record Picked (m ids picks : List ℕ) (n : ℕ) : Type 0 where
  pub few : n ≤ length picks
  pub points : Pointing m picks n
  pub copied : (k : ℕ) → k < n → take 32 (drop (k * 32) ids) ≡ take 32 (drop (get_or picks k 0) m)

-- room for the places of ids, for their bytes, and for what is found of them
pub record Picking (ids picks found : List ℕ) : Type 0 where
  pub some : 0 < length picks
  pub wide : length picks * 32 ≤ length ids
  pub noted : length picks ≤ length found

-- `found` is 1 for each of the first n of some places at which one of the ids o stands, else 0
abbrev pub FoundAt : List (List ℕ) → List ℕ → List ℕ → List ℕ → ℕ → Type 0
FoundAt o found m picks n = (k : ℕ) → k < n → get_or found k 0 ≡ cond (some (same (take 32 (drop (get_or picks k 0) m))) o) 1 0

-- as Gathered, but with the ids `rest` of `all` still to come
pub record Gathering (m : List ℕ) (all rest : List (List ℕ)) (f : Limits) (pos : List ℕ) (n : ℕ) : Type 0 where
  pub left : (x : ℕ) → has x (map (big_endian 32) rest) ≡ true → has x (map (big_endian 32) all) ≡ true
  pub from : (k : ℕ) → k < n → Within f (key_at m pos k) × (has (key_at m pos k) (map (big_endian 32) all) ≡ true)
  pub holds : (x : ℕ) → has x (map (big_endian 32) all) ≡ true → Within f x → (has x (map (big_endian 32) rest) ≡ true) ⊎ Held m pos n (key_at m pos 0) (n ≡ 11008) x
