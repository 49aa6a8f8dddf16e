-- `cutting::between::shortest_bound` meets its contract.
use Prim.Native.Nat.{ℕ, ◌-◌, ◌*◌, ◌<◌}
use mathlib.Core.Path.{◌≡◌}
use mathlib.Core.List.{List}
use native.Mathlib.Omega.{arith}
use lib.ListN.{length, take, drop}
use borrow.Author.Rules.{rules}
use Rattle.table.specs.Code.{lent}
use Rattle.table.proofs.Items.{right_size}
use Rattle.writer.proofs.Laying.{rest_is, rest-length}
use Rattle.cutting.specs.Cutting.{shared}
use Rattle.cutting.proofs.Shortest.{time-small, bound-by-time, bound-by-id, shared-below}
use Rattle.cutting.proofs.between.shortest_bound.Goals as goal

pub overflow_mul-p : goal.overflow_mul-p
overflow_mul-p c = omega (arith, right_size _ c.requires.0.0)

pub overflow_mul-q : goal.overflow_mul-q
overflow_mul-q c = omega (arith, right_size _ c.requires.0.0)

pub slice_bounds-id_of-count : goal.slice_bounds-id_of-count
slice_bounds-id_of-count c = omega (arith, right_size _ c.requires.0.0)

pub slice_bounds-id_of-start : goal.slice_bounds-id_of-start
slice_bounds-id_of-start c = let r = right_size _ c.requires.0.0 in search rules

pub id_of-prefix-requires : goal.id_of-prefix-requires
id_of-prefix-requires c = rw (rest-length _ c.args.ids.now) (omega (arith, right_size _ c.requires.0.0))

pub shared_bytes-requires : goal.shared_bytes-requires
shared_bytes-requires c =
    let a = c.args in (
      rw (rest-length ((a.i - 1) * 32) a.ids.now) (omega (arith, right_size _ c.requires.0.0)),
      rw (rest-length (a.i * 32) a.ids.now) (omega (arith, right_size _ c.requires.0.0)),
    )

-- what was counted, in the ids of the table
counted : (ids : List ℕ) (p q k : ℕ) → k ≡ shared (take 32 (take (length ids - p) (drop p ids))) (take 32 (take (length ids - q) (drop q ids)))
    → k ≡ shared (take 32 (drop p ids)) (take 32 (drop q ids))
counted ids p q k e = rw (rest_is p ids, rest_is q ids) at e

pub overflow_add-len : goal.overflow_add-len
overflow_add-len c =
    let a = c.args in
    omega (arith, shared-below (lent a.times.now a.ids.now) c.requires.0 a.i c.requires.1 c.requires.2 c.if-times-i.true c.shared_bytes.result (counted a.ids.now ((a.i - 1) * 32) (a.i * 32) _ c.shared_bytes.ensures))

pub returns-then-times-i : goal.returns-then-times-i
returns-then-times-i c =
    let a = c.args in
    let k = counted a.ids.now ((a.i - 1) * 32) (a.i * 32) _ c.shared_bytes.ensures in
    let few : c.shared_bytes.result < 32 = shared-below (lent a.times.now a.ids.now) c.requires.0 a.i c.requires.1 c.requires.2 c.if-times-i.true c.shared_bytes.result k in
    let id : c.id_of-prefix.result ≡ take 32 (drop (a.i * 32) a.ids.now) = rw (rest_is (a.i * 32) a.ids.now) at c.id_of-prefix.ensures in (
      rw id (bound-by-id (lent a.times.now a.ids.now) c.requires.0 a.i c.requires.1 c.requires.2 c.if-times-i.true c.shared_bytes.result k),
      (time-small (lent a.times.now a.ids.now) c.requires.0 a.i c.requires.2, omega arith),
    )

pub returns-else-times-i : goal.returns-else-times-i
returns-else-times-i c =
    let a = c.args in
    (bound-by-time (lent a.times.now a.ids.now) c.requires.0 a.i c.requires.1 c.requires.2 c.if-times-i.false, (time-small (lent a.times.now a.ids.now) c.requires.0 a.i c.requires.2, omega arith))
