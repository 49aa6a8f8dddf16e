-- For contracts of functions that only our own crates call: ranges that are handed over one after another.
use Rattle.std.specs.Prelude.{cond, List, [], ◌∷◌}
use Rattle.message.specs.Bound.{Bound}
use Rattle.message.specs.Message.{Range, upper}
use Rattle.message.specs.Meaning.{is_skip}

-- the final skip, if there is one: `tidy` leaves it off
unfoldable pub waiting : List Range → List Range
waiting [] = []
waiting (r ∷ []) = cond (is_skip r) (r ∷ []) []
waiting (r ∷ s ∷ rs) = waiting (s ∷ rs)

-- the last upper bound
unfoldable pub last_upper : Bound → List Range → Bound
last_upper lower [] = lower
last_upper lower (r ∷ rs) = last_upper (upper r) rs
