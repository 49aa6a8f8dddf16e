-- `shorten::first_ids` meets its contract.
use native.Mathlib.Omega.{arith}
use Rattle.table.specs.Code.{lent}
use Rattle.table.proofs.Items.{right_size}
use Rattle.shorten.proofs.Fitting.{first_is}
use Rattle.shorten.proofs.first_ids.Goals as goal

pub overflow_mul-result : goal.overflow_mul-result
overflow_mul-result c = omega (arith, right_size _ c.requires.0.0)

pub returns : goal.returns
returns c =
    let u = c.shortest_bound-upper.ensures in
    (first_is (lent c.args.times.now c.args.own.now) c.args.span c.args.count c.requires.1 c.requires.2 c.requires.3 _ u.0, u.1, omega (arith, right_size _ c.requires.0.0))
