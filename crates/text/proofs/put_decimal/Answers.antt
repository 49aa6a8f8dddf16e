use Rattle.std.proofs.Common.{arith}
use Rattle.text.specs.Text.{decimal}
use Rattle.text.proofs.Putting.{put-end}
use Rattle.text.proofs.put_decimal.Goals as goal

pub returns-clause-out_after : goal.returns-clause-out_after
returns-clause-out_after c =
    let d = c.put_digits-k in
    (put-end (decimal c.args.n) c.args.out.now d.new.out d.result c.args.end d.ensures.value.0 (omega arith) d.ensures.out_after).1
