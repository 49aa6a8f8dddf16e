-- `table::compare::word` meets its contract.
use native.Mathlib.Omega.{arith}
use Prim.Native.Nat.{◌+◌, ◌-◌}
use mathlib.Core.Path.{◌≡◌, ◌∙◌}
use lib.ListN.{take, drop}
use Rattle.table.proofs.Words.{word_is, big_endian-take}
use Rattle.table.proofs.compare.word.Goals as goal

pub returns : goal.returns
returns c =
    let eight : c.args.at + 8 - c.args.at ≡ 8 = omega arith in
    let bytes : c.unwrap.result ≡ take 8 (drop c.args.at c.args.s.now) = rw eight at (rw c.unwrap.ensures at c.try_into.ensures).1.same in
    c.from_be_bytes.ensures ∙ word_is c.unwrap.result ∙ rw bytes (big_endian-take 8 (drop c.args.at c.args.s.now))
