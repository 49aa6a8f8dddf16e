use Rattle.std.proofs.Common.{◌+◌, ◌/◌, ◌%◌, ◌≤◌, ◌^◌, ◌<◌, ◌≡◌, ℕ, [], ◌∷◌, length, refl, ap, arith, length-append}
use Rattle.text.specs.Text.{digit, decimal}
use Rattle.text.proofs.Putting.{decimal-small, decimal-more, put-first, put-end}
use Rattle.text.proofs.Fitting.{decimal_short}
use Rattle.text.proofs.+put_digits.Goals as goal

pub returns-then-n-lt10-clause-value : goal.returns-then-n-lt10-clause-value
returns-then-n-lt10-clause-value t c = rw (decimal-small c.args.n c.if-n-lt10.true) (refl, omega arith)

pub returns-then-n-lt10-clause-out_after : goal.returns-then-n-lt10-clause-out_after
returns-then-n-lt10-clause-out_after t c =
    rw (decimal-small c.args.n c.if-n-lt10.true, c.digit.ensures) (put-first c.args.out.now (digit c.args.n) (omega arith))

-- a digit more is one of twenty at most
more : (n k : ℕ) → 10 ≤ n → n < 2 ^ 64 → k ≡ length (decimal (n / 10)) → k + 1 ≤ 20
more n k h few e =
    omega (arith, e, decimal_short n, ap length (decimal-more n h few), length-append (decimal (n / 10)) (digit (n % 10) ∷ []))

pub bounds-out-k : goal.bounds-out-k
bounds-out-k t c =
    let k : c.put_digits-k.result + 1 ≤ 20 = more c.args.n _ c.if-n-lt10.false (omega arith) c.put_digits-k.ensures.value.0 in
    omega arith

pub returns-clause-value : goal.returns-clause-value
returns-clause-value t c =
    let d = c.put_digits-k in
    let k : d.result + 1 ≤ 20 = more c.args.n _ c.if-n-lt10.false (omega arith) d.ensures.value.0 in
    rw (decimal-more c.args.n c.if-n-lt10.false (omega arith))
    ((put-end (decimal (c.args.n / 10)) c.args.out.now d.new.out d.result (digit (c.args.n % 10)) d.ensures.value.0 (omega arith) d.ensures.out_after).0, k)

pub returns-clause-out_after : goal.returns-clause-out_after
returns-clause-out_after t c =
    let d = c.put_digits-k in
    let k : d.result + 1 ≤ 20 = more c.args.n _ c.if-n-lt10.false (omega arith) d.ensures.value.0 in
    rw (decimal-more c.args.n c.if-n-lt10.false (omega arith), c.digit-2.ensures)
    (put-end (decimal (c.args.n / 10)) c.args.out.now d.new.out d.result (digit (c.args.n % 10)) d.ensures.value.0 (omega arith) d.ensures.out_after).1
