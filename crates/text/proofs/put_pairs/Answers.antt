use Rattle.std.proofs.Common.{◌≤◌, length, arith, sym}
use Rattle.std.proofs.Math.Seq.{length-take-le}
use Rattle.text.proofs.Putting.{hex_step, put-none}
use Rattle.text.proofs.put_pairs.Goals as goal

pub loop-i-init : goal.loop-i-init
loop-i-init c = sym (put-none c.args.out.now)

pub loop-i-preserved : goal.loop-i-preserved
loop-i-preserved c =
    let a = c.args in
    let l = c.loop-i in
    let inside : l.i ≤ length a.s.now = omega arith in
    hex_step a.s.now a.out.now l.out l.i _ _ (omega arith) c.requires l.invariant (length-take-le l.i a.s.now inside) c.digit.ensures c.digit-in-loop-i.ensures
