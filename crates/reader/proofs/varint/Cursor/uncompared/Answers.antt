use Rattle.std.proofs.Common.{◌≡◌, ◌+◌, ◌-◌, length, take, refl, arith}
use Rattle.std.proofs.lemmas.Result.{err_from_is_err_and}
use lib.Seq.{take_all}
use Rattle.message.specs.Bound.{read_bound}
use Rattle.reader.proofs.Steps.{onward}
use Rattle.reader.proofs.ReadingBounds.{code_infinity, code_late, code_time}
use Rattle.reader.proofs.varint.Cursor.uncompared.Goals as goal

pub returns-in_err-code : goal.returns-in_err-code
unfolding read_bound
returns-in_err-code c =
    let p = err_from_is_err_and c.from_residual.result c.from_residual.ensures.1 in
    rw (p.1, p.2) (λ lower t. onward _ c.in_err-code.ensures.0 refl, tt)

pub returns-in_err-prefix : goal.returns-in_err-prefix
unfolding read_bound
returns-in_err-prefix c =
    let p = err_from_is_err_and c.from_residual-in_err-prefix.result c.from_residual-in_err-prefix.ensures.1 in
    rw (p.1, p.2) (λ lower t. onward _ c.in_ok-code.ensures.0 (code_infinity lower _ _ c.if-code-eq0.true c.in_err-prefix.ensures.0), tt)

pub returns-then-code-eq0 : goal.returns-then-code-eq0
unfolding read_bound
returns-then-code-eq0 c =
    let x = c.in_ok-prefix.ensures in
    (λ lower t. onward _ c.in_ok-code.ensures.0 (code_infinity lower _ _ c.if-code-eq0.true x.0), (omega arith, x.1.0, omega arith))

pub returns-then-time : goal.returns-then-time
unfolding read_bound
returns-then-time c = (λ lower t. onward _ c.in_ok-code.ensures.0 (code_late lower _ _ _ t c.if-code-eq0.false (omega arith)), tt)

pub returns-in_err-prefix-2 : goal.returns-in_err-prefix-2
unfolding read_bound
returns-in_err-prefix-2 c =
    let p = err_from_is_err_and c.from_residual-in_err-prefix-2.result c.from_residual-in_err-prefix-2.ensures.1 in
    rw (p.1, p.2) (λ lower t. onward _ c.in_ok-code.ensures.0 (code_time lower _ _ _ t c.if-code-eq0.false (omega arith) c.in_err-prefix-2.ensures.0), tt)

pub returns : goal.returns
unfolding read_bound
returns c =
    let x = c.in_ok-prefix-2.ensures in
    let p = c.in_ok-prefix-2.field-0.value.now in
    let whole : take (length p) p ≡ p = take_all (length p) p (omega arith) in
    let sum : c.saturating_add-time.result ≡ c.args.last + (c.in_ok-code.field-0.value - 1) = omega arith in
    rw (whole, sum) (λ lower t. onward _ c.in_ok-code.ensures.0 (code_time lower _ _ _ t c.if-code-eq0.false (omega arith) x.0), (refl, x.1.0, x.1.1))
