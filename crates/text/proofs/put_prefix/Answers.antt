use Rattle.std.proofs.lemmas.Grind.{common_steps}
use Rattle.std.proofs.Common.{◌≡◌, ◌≢◌, length, arith}
use Rattle.text.proofs.Putting.{no-prefix, some_prefix}
use Rattle.text.proofs.put_prefix.Goals as goal

pub returns-then-is_empty : goal.returns-then-is_empty
returns-then-is_empty c =
    let none : length c.args.p.now ≡ 0 = grind (arith, common_steps) in
    rw (no-prefix c.args.p.now none) record { value = (c.copy.ensures.value, omega arith); out_after = c.copy.ensures.out_after }

pub returns-else-is_empty : goal.returns-else-is_empty
returns-else-is_empty c =
    let h = c.put_hex in
    let some : length c.args.p.now ≢ 0 = grind (arith, common_steps) in
    rw (some_prefix c.args.p.now some) record { value = (h.ensures.value.0, omega arith); out_after = h.ensures.out_after }
