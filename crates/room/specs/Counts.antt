-- For contracts of functions that only our own crates call: the needed list with part of what a reply adds.
use Rattle.std.specs.Prelude.{ℕ, ltb}
use mathlib.Core.List.{List, foldr}
use Rattle.message.specs.Bound.{big_endian}
use Rattle.table.specs.Lists.{keep}
use Rattle.ends.specs.Opener.{insert}

-- the list ds with those of the ids `all` whose numbers are below f
abbrev pub list_below : List (List ℕ) → List (List ℕ) → ℕ → List (List ℕ)
list_below ds all f = foldr insert ds (keep (λ d. ltb (big_endian 32 d) f) all)
