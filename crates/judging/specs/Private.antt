-- For contracts of private functions alone: the test on a range of the reply and of the query; what a range of the query asks of the reply, and the reply's ranges that
-- meet it, from a walk on.
use Rattle.std.specs.Prelude.{Option, Some, None, ℕ, ◌+◌, ◌≤◌, ◌<◌, ◌≡◌, Bool, true, false, not, ◌&&◌, ◌||◌, List, leb, length, get_or}
use Rattle.message.specs.Bound as B
use Rattle.message.specs.Bound.{key, start}
use Rattle.message.specs.Message.{Payload}
use Rattle.message.specs.Code.{bound_of}
use Rattle.table.specs.Lists.{every}
use Rattle.table.specs.Table.{Table, items, within}
use Rattle.cutting.specs.declared.between.Placed.{Placed}
use Rattle.reader.specs.Private.{lower_at, ranges_at}
use Rattle.walk.specs.Walking.{starts, Walking}
use Rattle.walk.specs.declared.Walk.{Walk}
use Rattle.judge.specs.Judge.{is_skip, is_ids, whole, meeting, of_table, divides, answers}
use Rattle.judging.specs.declared.merge.Asked.{Asked}
use Rattle.judging.specs.declared.merge.Sofar.{Sofar}

-- what a range of the reply says is so of the table
abbrev pub truth : Table → B.Bound → B.Bound → Payload → Bool
truth T x y p = of_table (within x y (items T)) p

-- a range of the query is answered by the reply m
abbrev pub answered : Table → List ℕ → B.Bound → B.Bound → Payload → Bool
answered T m x y p = answers (within x y (items T)) p (meeting x y start (whole (ranges_at m starts.cursor)))

-- none of the first n bytes is 0; or one of them is
abbrev pub Noted : List ℕ → ℕ → Bool → Type 0
Noted found n true = (i : ℕ) → i < n → get_or found i 0 ≡ 0 → ⊥
Noted found n false = (i : ℕ) × (i < n) × (get_or found i 0 ≡ 0)

-- a bound, with the bytes of the prefix beside it
abbrev pub bound_at : Placed → B.Bound
bound_at p = bound_of p.bound p.prefix

-- the payloads that meet the range from x to y, of the ranges from the walk on
unfoldable pub met_from : B.Bound → B.Bound → List ℕ → Walk → List Payload
met_from x y m w = meeting x y (lower_at w.cursor) (whole (ranges_at m w.cursor))

-- what a range of the query asks of the payloads that meet it
abbrev pub wants : Asked → List Payload → Bool
wants Asked.Skip ps = every is_skip ps
wants Asked.Division ps = divides ps
wants Asked.Ids ps = every is_ids ps

-- what it asks of each of them, and of all together: whether all are ids, and how many there are
abbrev pub allowed : Asked → Payload → Bool
allowed Asked.Skip p = is_skip p
allowed Asked.Division p = not (is_skip p)
allowed Asked.Ids p = is_ids p

abbrev pub roomy : Asked → Bool → ℕ → Bool
roomy Asked.Skip listed n = true
roomy Asked.Division listed n = listed || leb 2 n
roomy Asked.Ids listed n = true

-- what comes of those met so far and of those still to come
unfoldable pub concludes : Asked → Sofar → List Payload → Bool
concludes a s ps = s.fits && (every (allowed a) ps && roomy a (s.listed && every is_ids ps) (s.met + length ps))

-- from the walk w to w' no range was passed that reaches beyond y
abbrev pub PassedUpTo : B.Bound → List ℕ → Walk → Walk → Type 0
PassedUpTo y m w w' = (c d : B.Bound) → key y ≤ key c → met_from c d m w ≡ met_from c d m w'

-- from the walk w on comes w', a walk for what follows y
pub record Onward (T : Table) (m : List ℕ) (w : Walk) (y : B.Bound) (w' : Walk) : Type 0 where
  pub walking : Walking T m w'
  pub low : key (lower_at w'.cursor) ≤ key y
  pub passed : PassedUpTo y m w w'

-- whether the ranges of the reply m from the walk w on are what the query's range from x to y asks for, and a walk for the query's next range
abbrev pub Answering : Asked → Table → List ℕ → Walk → B.Bound → B.Bound → Option Walk → Type 0
Answering a T m w x y None = wants a (met_from x y m w) ≡ false
Answering a T m w x y (Some w') = (wants a (met_from x y m w) ≡ true) × Onward T m w y w'
