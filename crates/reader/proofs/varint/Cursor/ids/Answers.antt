use Rattle.std.proofs.Common.{refl, arith}
use Rattle.std.proofs.lemmas.Result.{err_from_is_err_and}
use Rattle.message.specs.Message.{read_of_mode}
use Rattle.reader.proofs.Steps.{onward}
use Rattle.reader.proofs.ReadingPayloads.{ids-end, ids-read}
use Rattle.reader.proofs.varint.Cursor.ids.Goals as goal

pub returns-in_err-value : goal.returns-in_err-value
unfolding read_of_mode
returns-in_err-value c =
    let p = err_from_is_err_and c.from_residual.result c.from_residual.ensures.1 in
    rw (p.1, p.2) (onward _ c.in_err-value.ensures.0 refl, tt)

pub returns-then-m-at : goal.returns-then-m-at
unfolding read_of_mode
returns-then-m-at c =
    let v = c.in_ok-value.field-0 in
    (onward _ c.in_ok-value.ensures.0 (onward _ (ids-end v.value v.next.at c.args.m.now (omega arith)) refl), tt)

pub returns : goal.returns
unfolding read_of_mode
returns c =
    let v = c.in_ok-value.field-0 in
    (onward _ c.in_ok-value.ensures.0 (onward _ (ids-read v.value v.next.at c.args.m.now (omega arith)) refl), (refl, omega (arith, c.in_ok-value.ensures.1)))
