use Rattle.std.proofs.Common.{◌≡◌, ℕ, ◌<◌, ◌≤◌, length, get_or}
use Rattle.sha256.specs.Fips180.{◌⊞◌}
use Rattle.sha256.proofs.compression.compress.Given as goal

abbrev pub invariant-loop-i : goal.invariant-loop-i
invariant-loop-i l = record {
  len : length l.state ≡ 8;
  done : (k : ℕ) → k < l.i → get_or l.state k 0 ≡ get_or l.fn.state k 0 ⊞ get_or l.x-items k 0;
  left : (k : ℕ) → l.i ≤ k → get_or l.state k 0 ≡ get_or l.fn.state k 0;
}
