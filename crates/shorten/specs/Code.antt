-- What the values of the code's types mean.
use Rattle.std.specs.Prelude.{Option, Some, None, ℕ}
use Rattle.limit.specs.Limit as L

-- the byte limit of a call, if it was given one
abbrev pub limit_of : Option ℕ → L.Limit
limit_of None = L.unlimited
limit_of (Some n) = L.bytes n
