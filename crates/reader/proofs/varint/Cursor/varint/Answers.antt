use Rattle.std.proofs.lemmas.Grind.{common_steps}
use Rattle.std.proofs.Common.{◌≡◌, ◌<◌, length, get_or, sym, ◌∙◌, arith}
use Rattle.reader.proofs.ReadingVarints.{digits_end, digits_past, digits_last, digits_more, varint_padded, varint_begins}
use Rattle.reader.proofs.varint.Cursor.varint.Goals as goal

pub returns-then-eq : goal.returns-then-eq
returns-then-eq c =
    let a = c.args in
    let inside : a.self.at < length a.m.now = grind (arith, common_steps) in
    let first : get_or a.m.now a.self.at 0 ≡ 128 = grind (arith, common_steps) in
    (sym (varint_padded a.m.now a.self.at inside first), tt)

pub loop-i-init : goal.loop-i-init
loop-i-init c =
    let a = c.args in
    let first : a.self.at < length a.m.now → get_or a.m.now a.self.at 0 ≡ 128 → ⊥ = grind (arith, common_steps) in
    varint_begins a.m.now a.self.at first

pub returns-then-value : goal.returns-then-value
returns-then-value c = (sym (c.loop-i.invariant ∙ digits_past c.args.m.now c.loop-i.i c.loop-i.value (omega arith) (omega arith)), tt)

pub returns-then-m-i-lt128 : goal.returns-then-m-i-lt128
returns-then-m-i-lt128 c =
    (sym (c.loop-i.invariant ∙ digits_last c.args.m.now c.loop-i.i c.loop-i.value (omega arith) (omega arith) (omega arith)), omega arith)

pub loop-i-preserved : goal.loop-i-preserved
loop-i-preserved c =
    c.loop-i.invariant ∙ digits_more c.args.m.now c.loop-i.i c.loop-i.value (omega arith) (omega arith) (omega arith)

pub returns : goal.returns
returns c = (sym (c.loop-i.invariant ∙ digits_end _ _ _ c.loop-i-test.false), tt)
