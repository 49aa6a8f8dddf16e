use Rattle.std.proofs.Common.{arith}
use Rattle.message.proofs.Order.{Small, small_bytes}
use Rattle.reader.proofs.Stepping.{next-range}
use Rattle.walk.proofs.Steps.{stepped}
use Rattle.walk.proofs.Walk.step.Goals as goal

pub unwrap-requires : goal.unwrap-requires
unwrap-requires c =
    let small : Small c.args.m.now = λ k. omega (arith, c.type_inv.m k) in
    (next-range c.args.m.now c.args.self.cursor _ (small_bytes c.args.m.now small) c.requires.2 c.requires.1.reads c.range.ensures).0

pub returns : goal.returns
returns c =
    let small : Small c.args.m.now = λ k. omega (arith, c.type_inv.m k) in
    let hi = c.first_at_or_above-hi in
    stepped _ c.args.m.now c.args.self c.requires.0 (small_bytes c.args.m.now small) c.requires.2 c.requires.1 _ (rw c.unwrap.ensures at c.range.ensures) hi.result hi.ensures.0 hi.ensures.1
