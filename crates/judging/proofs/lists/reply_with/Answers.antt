-- `judging::lists::reply_with` meets its contract. The invariant: the ranges from the walk on decide.
use mathlib.Core.Path.{refl, sym, ◌∙◌}
use Rattle.table.specs.Code.{lent}
use Rattle.judging.specs.Private.{truth}
use Rattle.judging.proofs.Judging.{pass_start, pass_end, truth-next, truth_stop}
use Rattle.judging.proofs.lists.reply_with.Goals as goal

pub loop-walk-init : goal.loop-walk-init
loop-walk-init c =
    rw c.start-walk.ensures (c.requires.1, pass_start (truth (lent c.args.times.now c.args.own.now)) c.args.reply.now, refl, refl, refl)

pub returns-then-not-of_table : goal.returns-then-not-of_table
returns-then-not-of_table c =
    let l = c.loop-walk in
    let t = c.step-payload in
    sym (l.invariant.1 ∙ truth_stop (lent c.args.times.now c.args.own.now) c.args.reply.now l.walk t.result t.ensures (sym c.if-not-of_table.true ∙ c.of_table.ensures))

pub loop-walk-preserved : goal.loop-walk-preserved
loop-walk-preserved c =
    let l = c.loop-walk in
    let t = c.step-payload in
    let r = c.of_table in (
      t.ensures.next,
      l.invariant.1 ∙ truth-next (lent c.args.times.now c.args.own.now) c.args.reply.now l.walk t.result t.ensures (sym c.if-not-of_table.false ∙ r.ensures),
      r.auto.words ∙ l.invariant.2,
      r.auto.pos ∙ l.invariant.3,
      r.auto.found ∙ l.invariant.4,
    )

pub returns : goal.returns
returns c =
    let l = c.loop-walk in
    sym (l.invariant.1 ∙ pass_end (truth (lent c.args.times.now c.args.own.now)) c.args.reply.now l.walk c.loop-walk-test.false)
