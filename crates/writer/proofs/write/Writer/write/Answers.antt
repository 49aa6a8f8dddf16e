-- `writer::write::Writer::write` meets its contract.
use native.Mathlib.Omega.{arith}
use borrow.Author.Rules.{rules}
use mathlib.Core.Path.{sym}
use Rattle.writer.proofs.Laying.{rest-length}
use Rattle.writer.proofs.Steps.{ready, out-refused, out-skip, out-more}
use Rattle.writer.proofs.write.Writer.write.Goals as goal

pub returns-in_err-measure-clause-out_after : goal.returns-in_err-measure-clause-out_after
returns-in_err-measure-clause-out_after c = out-refused _ _ _ _ _ c.in_err-measure.ensures.verdict_value

pub slice_bounds-write_more-count : goal.slice_bounds-write_more-count
slice_bounds-write_more-count c = omega (arith, (ready _ _ _ _ c.in_ok-measure.ensures.verdict_value).3)

pub slice_bounds-write_more-start : goal.slice_bounds-write_more-start
slice_bounds-write_more-start c =
    let room = slice_bounds-write_more-count c in
    search rules

pub write_more-requires : goal.write_more-requires
write_more-requires c =
    let a = c.args in
    let h = ready _ a.self.now a.range a.source.now c.in_ok-measure.ensures.verdict_value in
    (h.0, h.1, h.2, sym c.if-not-is_skip.ensures, omega (arith, h.3, rest-length a.self.now.at a.out.now))

pub returns-then-not-is_skip-clause-out_after : goal.returns-then-not-is_skip-clause-out_after
returns-then-not-is_skip-clause-out_after c =
    out-more _ _ _ _ c.in_ok-measure.ensures.verdict_value c.write_more.new.out c.write_more.ensures

pub returns-else-not-is_skip-clause-out_after : goal.returns-else-not-is_skip-clause-out_after
returns-else-not-is_skip-clause-out_after c = out-skip _ _ _ _ c.in_ok-measure.ensures.verdict_value (sym c.if-not-is_skip.ensures)
