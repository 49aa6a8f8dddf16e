use Prim.Native.Nat.{◌<◌, ◌^◌}
use mathlib.Core.Path.{◌≡◌}
use mathlib.Core.List.{◌++◌}
use lib.ListN.{drop}
use Rattle.message.specs.Varint.{digits_before, spell_varint}
use Rattle.message.proofs.Varints.{digit_count}
use Rattle.writer.proofs.varint.write_varint.Given as goal

abbrev pub invariant-loop-i : goal.invariant-loop-i
invariant-loop-i l =
    (l.i ≡ digit_count 10 l.rest) × (l.rest < 2 ^ 57) × (digits_before 10 l.rest (drop l.i l.out) ≡ spell_varint l.v ++ drop l.n l.initial.out)
