use Rattle.std.proofs.Common.{◌≡◌, ◌+◌, ◌-◌, ℕ, refl, arith, length-take}
use Rattle.std.proofs.lemmas.Result.{err_from_is_err_and}
use Rattle.message.specs.Bound.{read_prefix}
use Rattle.reader.proofs.Steps.{onward, bytes-end, bytes_read}
use Rattle.reader.proofs.ReadingBounds.{prefix-long, prefix-fits}
use Rattle.reader.proofs.varint.Cursor.prefix.Goals as goal

pub returns-in_err-value : goal.returns-in_err-value
unfolding read_prefix
returns-in_err-value c =
    let p = err_from_is_err_and c.from_residual.result c.from_residual.ensures.1 in
    rw (p.1, p.2) (onward _ c.in_err-value.ensures.0 refl, tt)

pub returns-then-most-value : goal.returns-then-most-value
unfolding read_prefix
returns-then-most-value c = (onward _ c.in_ok-value.ensures.0 (prefix-long _ _ _ c.if-most-value.true), tt)

pub returns-then-m-next : goal.returns-then-m-next
unfolding read_prefix
returns-then-m-next c =
    let v = c.in_ok-value.field-0 in
    (onward _ c.in_ok-value.ensures.0 (prefix-fits _ _ _ c.if-most-value.false (bytes-end v.value v.next.at c.args.m.now c.if-m-next.true)), tt)

pub returns : goal.returns
unfolding read_prefix
returns c =
    let v = c.in_ok-value.field-0 in
    let e : v.next.at + v.value - v.next.at ≡ v.value = omega arith in
    let b = bytes_read v.value v.next.at c.args.m.now c.if-m-next.false in
    rw e (onward _ c.in_ok-value.ensures.0 (prefix-fits _ _ _ c.if-most-value.false b), (omega (arith, c.in_ok-value.ensures.1), omega (arith, length-take {A = ℕ})))
