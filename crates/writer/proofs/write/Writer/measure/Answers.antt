-- `writer::write::Writer::measure` meets its contract.
use native.Mathlib.Omega.{arith}
use Rattle.writer.proofs.Steps.{ready, next-taken, next-refused}
use mathlib.Core.Path.{◌∙◌}
use Rattle.writer.proofs.write.Writer.measure.Goals as goal

pub returns-in_err-judge-clause-writer_after : goal.returns-in_err-judge-clause-writer_after
returns-in_err-judge-clause-writer_after c = next-refused _ _ _ _ _ c.in_err-judge.ensures

pub more_size-requires : goal.more_size-requires
more_size-requires c =
    let h = ready _ _ _ _ c.in_ok-judge.ensures in
    (h.0, h.1, h.2)

pub behind-requires : goal.behind-requires
behind-requires c = omega (arith, (ready _ _ _ _ c.in_ok-judge.ensures).3)

pub returns-clause-writer_after : goal.returns-clause-writer_after
returns-clause-writer_after c = c.behind.ensures c.args.source.now c.more_size.ensures ∙ next-taken _ _ _ _ c.in_ok-judge.ensures
