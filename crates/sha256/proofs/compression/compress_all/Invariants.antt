use Rattle.std.proofs.Common.{◌≡◌, ℕ, ◌+◌, ◌*◌, List, length, drop}
use Rattle.std.specs.Simd.{first_chunks}
use Rattle.sha256.specs.Fips180.{blocks}
use Rattle.sha256.specs.Private.{value_of}
use Rattle.sha256.proofs.compression.compress_all.Given as goal

abbrev pub invariant-loop-block : goal.invariant-loop-block
invariant-loop-block l =
    (p : List ℕ) (k : ℕ) → value_of l.fn.state ≡ blocks k p → l.blocks ≡ first_chunks 64 (length l.blocks) (drop (k * 64) p)
    → value_of l.state ≡ blocks (k + l.block-index) p
