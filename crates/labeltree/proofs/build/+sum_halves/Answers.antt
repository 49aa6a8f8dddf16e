-- `labeltree::build::sum_halves` meets its contract.
use Rattle.std.proofs.Common.{◌+◌, ◌-◌, ◌*◌, ◌^◌, ◌≤◌, ℕ, length, sym, subst, ◌∙◌, arith}
use Rattle.tree.proofs.Building.{renew-room, renew-left, renew_right, renewed_last, renewed_halves}
use Rattle.labeltree.proofs.build.+sum_halves.Goals as goal

pub returns-in-0 : goal.returns-in-0
returns-in-0 t c = renewed_last c.args.level c.args.at c.args.tree.now c.in-0.is

-- the left half
pub sum_halves-requires : goal.sum_halves-requires
sum_halves-requires t c =
    let a = c.args in
    (omega (arith, c.decreases), renew-left (length a.tree.now) a.level a.at c.in_default.in_default-own.rest.0.1 c.requires)

-- the right half
pub sum_halves-requires-in_default : goal.sum_halves-requires-in_default
sum_halves-requires-in_default t c =
    let a = c.args in (
      omega (arith, c.decreases),
      subst (λ (n : ℕ). 40 * ((2 * a.at + 2 + 2) * 2 ^ (a.level - 1)) ≤ n + 40) (sym c.sum_halves.auto.tree) (renew_right (length a.tree.now) a.level a.at c.in_default.in_default-own.rest.0.1 c.requires),
    )

-- the label of both
pub renew-requires-in_default : goal.renew-requires-in_default
renew-requires-in_default t c =
    let a = c.args in
    let e = c.sum_halves-in_default.auto.tree ∙ c.sum_halves.auto.tree in
    omega (arith, e, renew-room (length a.tree.now) a.level a.at c.in_default.in_default-own.rest.0.1 c.requires)

pub returns-in_default : goal.returns-in_default
returns-in_default t c =
    let a = c.args in
    renewed_halves a.level a.at a.tree.now c.sum_halves.new.tree c.sum_halves-in_default.new.tree c.renew-in_default.new.tree c.in_default.in_default-own.rest.0.1 c.sum_halves.ensures c.sum_halves-in_default.ensures c.renew-in_default.ensures
