-- `sha256::digest` meets its contract: the blocks of m and the last blocks are those of its padded form. Assumes nothing.
use Rattle.std.proofs.Common.{◌≡◌, ℕ, List, ◌+◌, ◌/◌, length, refl, ap, ◌∙◌, arith}
use Rattle.std.specs.Simd.{first_chunks}
use Rattle.sha256.specs.Fips180.{blocks, pad, digest, value_bytes}
use Rattle.sha256.specs.Private.{rest, value_of}
use Rattle.sha256.proofs.Padding.{whole_chunks, count_blocks}
use Rattle.sha256.proofs.digest.Goals as goal

pub returns : goal.returns
unfolding digest blocks rest
returns c =
    let m : List ℕ = c.args.m.now in
    let whole : List (List ℕ) = c.as_chunks.result.0.now in
    let last : List (List ℕ) = c.as_chunks-2.result.0.now in
    let w : whole ≡ first_chunks 64 (length whole) (pad m) = rw c.as_chunks.ensures.front_len (c.as_chunks.ensures.front ∙ whole_chunks m) in
    let l : last ≡ first_chunks 64 (length last) (rest m) =
    rw (c.as_chunks-2.ensures.front_len, ← c.last_blocks-end.ensures.bytes) c.as_chunks-2.ensures.front in
    let before : value_of c.compress_all.new.state ≡ blocks (length m / 64) (pad m) =
    c.compress_all.ensures (pad m) 0 refl w ∙ ap (λ (n : ℕ). blocks n (pad m)) (omega arith) in
    let n : length m / 64 + length last ≡ length (pad m) / 64 = omega (arith, count_blocks m, ap length c.last_blocks-end.ensures.bytes) in
    c.bytes_of.ensures
    ∙ ap value_bytes (c.compress_all-2.ensures (pad m) (length m / 64) before l ∙ ap (λ (k : ℕ). blocks k (pad m)) n)
