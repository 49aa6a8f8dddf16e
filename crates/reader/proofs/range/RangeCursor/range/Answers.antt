use Rattle.std.proofs.Common.{refl, ap, ◌∙◌}
use Rattle.std.proofs.lemmas.Result.{err_from_is_err_and}
use Rattle.message.specs.Message.{read_range}
use Rattle.reader.specs.Answers.{padded}
use Rattle.reader.proofs.Steps.{onward}
use Rattle.reader.proofs.ReadingBounds.{whole_prefix}
use Rattle.reader.proofs.ReadingRanges.{kept}
use Rattle.reader.proofs.range.RangeCursor.range.Goals as goal

pub returns-in_err-upper : goal.returns-in_err-upper
unfolding read_range
returns-in_err-upper c =
    let p = err_from_is_err_and c.from_residual.result c.from_residual.ensures.1 in
    rw (p.1, p.2) (onward _ c.in_err-upper.ensures.0 refl, tt)

pub returns-in_err-payload : goal.returns-in_err-payload
unfolding read_range
returns-in_err-payload c =
    let p = err_from_is_err_and c.from_residual-in_err-payload.result c.from_residual-in_err-payload.ensures.1 in
    rw (p.1, p.2) (onward _ c.in_ok-upper.ensures.0 (onward _ c.in_err-payload.ensures.0 refl), tt)

pub returns : goal.returns
unfolding read_range
returns c =
    let u = c.in_ok-upper.field-0.value in
    let x = c.in_ok-upper.ensures in
    let w = c.in_ok-payload.ensures in
    let r = c.pad-prefix in
    rw (kept u.bound u.prefix.now r.result x.1.0 r.ensures)
    (onward _ x.0 (onward _ w.0 refl), ((x.1.2, r.ensures ∙ ap padded (whole_prefix u.bound u.prefix.now x.1.0)), w.1.0, w.1.1, refl, refl))
