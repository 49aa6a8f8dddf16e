-- For contracts of functions that only our own crates call: what the ranges from a walk on add to the needed list.
use Rattle.std.specs.Prelude.{ℕ, ◌-◌, ◌*◌, not, drop}
use mathlib.Core.List.{List, flatten}
use Rattle.message.specs.Code.{ids_in}
use Rattle.reader.specs.Private.{lower_at, ranges_at}
use Rattle.table.specs.Lists.{keep}
use Rattle.table.specs.Table.{Table, items}
use Rattle.cutting.specs.declared.Span.{Span}
use Rattle.ends.specs.Lists.{some, same}
use Rattle.ends.specs.Calls.{each_range}
use Rattle.ends.specs.Opener.{unowned}
use Rattle.walk.specs.declared.Walk.{Walk}

-- the ids that the ranges from the walk on add, in their order
unfoldable pub added_from : Table → List ℕ → Walk → List (List ℕ)
added_from T m w = flatten (each_range (unowned (items T)) (lower_at w.cursor) (ranges_at m w.cursor))

-- the ids of a list that are none of the ids o
abbrev pub without : List (List ℕ) → List (List ℕ) → List (List ℕ)
without o l = keep (λ d. not (some (same d) o)) l

-- the ids of a list that no own item of the span has; `own` is the bytes of all own ids
abbrev pub others : List ℕ → Span → List (List ℕ) → List (List ℕ)
others own span l = without (ids_in (span.hi - span.lo) (drop (span.lo * 32) own)) l
