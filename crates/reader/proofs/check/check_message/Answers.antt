use Rattle.std.proofs.lemmas.Grind.{common_steps}
use Rattle.std.proofs.lemmas.Result.{err_from_is_err_and}
use Rattle.std.proofs.Common.{◌≡◌, ◌<◌, sym, ◌∙◌, length, get_or, arith}
use Rattle.message.proofs.Order.{Small}
use Rattle.reader.specs.Private.{lower_at}
use Rattle.reader.proofs.ReadingMessages.{check_other, check_ranges, check_end_lem, check_refused, check_on}
use Rattle.reader.proofs.check.check_message.Goals as goal

pub returns-then-ne : goal.returns-then-ne
returns-then-ne c =
    let m = c.args.m.now in
    let first : 0 < length m → get_or m 0 0 ≡ 0x61 → ⊥ = grind (arith, common_steps) in
    sym (check_other m first)

pub loop-cursor-init : goal.loop-cursor-init
loop-cursor-init c =
    let m = c.args.m.now in
    let small : Small m = λ k. omega (arith, c.type_inv.m k) in
    let some : 0 < length m = grind (arith, common_steps) in
    let first : get_or m 0 0 ≡ 0x61 = grind (arith, common_steps) in
    (omega arith, check_ranges m small some first)

pub returns-in_err-cursor : goal.returns-in_err-cursor
returns-in_err-cursor c =
    let p = err_from_is_err_and c.from_residual.result c.from_residual.ensures.1 in
    let l = c.loop-cursor in
    rw (p.1, p.2) (sym (l.invariant.1 ∙ check_refused c.args.m.now l.cursor l.count c.loop-cursor-test.true _ c.in_err-cursor.ensures))

pub loop-cursor-smaller : goal.loop-cursor-smaller
loop-cursor-smaller c =
    let l = c.loop-cursor in
    let m = c.args.m.now in
    let small : Small m = λ k. omega (arith, c.type_inv.m k) in
    (check_on m l.cursor l.count c.loop-cursor-test.true c.in_ok-cursor.field-0 small c.in_ok-cursor.ensures).0

pub loop-cursor-preserved : goal.loop-cursor-preserved
loop-cursor-preserved c =
    let l = c.loop-cursor in
    let m = c.args.m.now in
    let small : Small m = λ k. omega (arith, c.type_inv.m k) in
    let z = check_on m l.cursor l.count c.loop-cursor-test.true c.in_ok-cursor.field-0 small c.in_ok-cursor.ensures in
    (omega (arith, z.0), l.invariant.1 ∙ z.1)

pub returns : goal.returns
returns c =
    let l = c.loop-cursor in
    let m = c.args.m.now in
    sym (l.invariant.1 ∙ check_end_lem (length m) l.count (lower_at l.cursor) m l.cursor.at c.loop-cursor-test.false)
