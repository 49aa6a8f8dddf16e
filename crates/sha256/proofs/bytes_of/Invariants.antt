use Rattle.std.proofs.Common.{◌≡◌, ◌*◌, length, take}
use Rattle.sha256.proofs.Padding.{word_bytes}
use Rattle.sha256.proofs.bytes_of.Given as goal

-- the bytes of the first i words stand at the front,
-- and the array keeps its length
abbrev pub invariant-loop-i : goal.invariant-loop-i
invariant-loop-i l = (length l.out ≡ 32) × (take (4 * l.i) l.out ≡ word_bytes l.i l.state)
