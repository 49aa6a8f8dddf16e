-- For contracts of functions that only our own crates call: a filter beside an index.
use Rattle.std.specs.Prelude.{ℕ, ◌%◌, ◌≤◌, ◌<◌, ◌≡◌, List, ◌⊎◌, length, get_or}

-- the byte of a filter that stands for a word
abbrev pub slot_of : ℕ → ℕ
slot_of w = w % 32768

-- 32,768 bytes at least, 1 where one of the first n words has them
pub record Filtered (words : List ℕ) (n : ℕ) (filter : List ℕ) : Type 0 where
  pub long : 32768 ≤ length filter
  pub noted : (k : ℕ) → k < n → get_or filter (slot_of (get_or words k 0)) 0 ≡ 1

-- the first n words do not fall
abbrev pub Rises : List ℕ → ℕ → Type 0
Rises words n = (i j : ℕ) → i ≤ j → j < n → get_or words i 0 ≤ get_or words j 0

-- a word is below the lowest or above the highest
abbrev pub Outside : ℕ → ℕ → ℕ → Type 0
Outside low high w = (w < low) ⊎ (high < w)
