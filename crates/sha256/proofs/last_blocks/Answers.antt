-- `sha256::last_blocks` meets its contract. Assumes nothing.
use Rattle.std.proofs.Common.{◌≡◌, ℕ, List, ◌≤◌, length, ◌∙◌, arith}
use Rattle.sha256.specs.Private.{rest}
use Rattle.sha256.proofs.Padding.{length_rest, rest_law}
use Rattle.sha256.proofs.last_blocks.Goals as goal
use Rattle.sha256.proofs.last_blocks.Goals.{then-n-lt56, else-n-lt56}

pub returns : goal.returns
returns c =
    let m : List ℕ = c.args.m.now in
    let e : c.if-n-lt56.end ≡ length (rest m) = elim c.if-n-lt56.branch [
      | then-n-lt56 w ↦ omega (arith, length_rest m)
      | else-n-lt56 w ↦ omega (arith, length_rest m)
    ] in
    let h : c.if-n-lt56.end ≤ 128 = omega (arith, length_rest m) in record {
      bytes = rw c.copy_from_slice.ensures.after
          (rest_law m c.as_chunks.result.1.now c.copy_from_slice-2.new.self 128 c.if-n-lt56.end _ c.as_chunks.ensures.back e h
          (c.copy_from_slice-2.ensures.after ∙ c.to_be_bytes.ensures));
      len = e;
    }
