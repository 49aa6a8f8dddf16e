-- `exchange::treat::skips_only` meets its contract. The invariant: the ranges from the walk on decide.
use mathlib.Core.Path.{sym, ◌∙◌}
use Rattle.table.specs.Code.{lent}
use Rattle.exchange.proofs.Treating.{skips-start, skips-end, skips-next, skips_stop}
use Rattle.exchange.proofs.treat.skips_only.Goals as goal

pub loop-walk-init : goal.loop-walk-init
loop-walk-init c =
    rw c.start-walk.ensures (c.requires.1, skips-start (lent c.args.times.now c.args.own.now) c.args.m.now)

pub returns-then-not-gives_skip : goal.returns-then-not-gives_skip
returns-then-not-gives_skip c =
    let l = c.loop-walk in
    skips_stop (lent c.args.times.now c.args.own.now) _ l.walk l.invariant.1 c.step-step.result c.step-step.ensures (sym c.gives_skip.ensures ∙ c.if-not-gives_skip.true)

pub loop-walk-preserved : goal.loop-walk-preserved
loop-walk-preserved c =
    let l = c.loop-walk in (
      c.step-step.ensures.next,
      skips-next (lent c.args.times.now c.args.own.now) _ l.walk l.invariant.1 c.step-step.result c.step-step.ensures (sym c.gives_skip.ensures ∙ c.if-not-gives_skip.false),
    )

pub returns : goal.returns
returns c =
    let l = c.loop-walk in
    skips-end (lent c.args.times.now c.args.own.now) _ l.walk l.invariant.1 c.loop-walk-test.false
