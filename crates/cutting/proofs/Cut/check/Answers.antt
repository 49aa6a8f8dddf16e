-- `cutting::Cut::check` meets its contract.
use mathlib.Core.Path.{refl}
use Prim.Native.Nat.{◌≤◌}
use borrow.Author.Rules.{rules}
use Rattle.cutting.specs.Code.{cut_of}
use Rattle.cutting.proofs.Limits.{limits_hold, limits_broken}
use Rattle.cutting.proofs.Cut.check.Goals as goal
use Rattle.cutting.proofs.Cut.check.Goals.{else-contains-via-then-contains+else-contains-2, else-contains-via-else-contains}

pub returns-then-contains-2 : goal.returns-then-contains-2
returns-then-contains-2 c =
    let parts : (2 ≤ c.args.self.parts) × (c.args.self.parts ≤ 64) = search rules in
    let limit : (c.args.self.parts ≤ c.args.self.limit) × (c.args.self.limit ≤ 4096) = search rules in
    rw (limits_hold (cut_of c.args.self) parts.0 parts.1 limit.0 limit.1) refl

pub returns-else-contains : goal.returns-else-contains
returns-else-contains c =
    rw (limits_broken (cut_of c.args.self) (λ (a, b, d, e).
    elim c.else-contains.branch [
      | else-contains-via-then-contains+else-contains-2 w ↦ search rules
      | else-contains-via-else-contains w ↦ search rules
    ])) refl
