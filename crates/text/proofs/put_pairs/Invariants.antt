-- The first i bytes are put.
use Rattle.std.proofs.Common.{◌≡◌, take}
use Rattle.text.specs.Text.{hex, put}
use Rattle.text.proofs.put_pairs.Given as goal

abbrev pub invariant-loop-i : goal.invariant-loop-i
invariant-loop-i l = l.out ≡ put (hex (take l.i l.s)) l.initial.out
