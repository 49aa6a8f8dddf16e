-- For contracts of functions that only our own crates call: the place of an id in a list that rises.
use Rattle.std.specs.Prelude.{ℕ, List, ltb, length}
use Rattle.message.specs.Bound.{big_endian}
use Rattle.table.specs.Lists.{keep}

-- how many ids of a list come before d
unfoldable pub below : List ℕ → List (List ℕ) → ℕ
below d l = length (keep (λ e. ltb (big_endian 32 e) (big_endian 32 d)) l)
