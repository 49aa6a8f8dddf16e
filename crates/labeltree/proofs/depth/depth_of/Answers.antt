-- `labeltree::depth::depth_of` meets its contract.
use mathlib.Core.Path.{◌≡◌, ap, ◌∙◌}
use Prim.Native.Nat.{ℕ, ◌^◌}
use Rattle.tree.specs.Tree.{depth_of}
use Rattle.tree.proofs.Depth.{power_told, smallest_power}
use Rattle.labeltree.proofs.depth.depth_of.Goals as goal

pub returns : goal.returns
returns c =
    let p = c.next_power_of_two-places.ensures in
    let l = c.ilog2.ensures in
    let power : c.next_power_of_two-places.result ≡ 2 ^ c.ilog2.result = power_told p.power.0 _ _ p.power.1 l.power_le l.next_power_gt in
    let levels : c.ilog2.result ≡ depth_of c.args.n = smallest_power c.args.n c.ilog2.result (rw (← power) p.lower_bound) (rw (← power) p.upper_bound) in
    (levels, power ∙ ap (λ (x : ℕ). 2 ^ x) levels)
