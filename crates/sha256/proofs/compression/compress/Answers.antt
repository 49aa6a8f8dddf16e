-- `sha256::compression::compress` meets its contract. The invariant: the first i words have their sums. Assumes nothing.
use Rattle.std.proofs.Common.{◌≡◌, ◌≢◌, ℕ, List, get_or, ◌<◌, length, ap, ◌∙◌, arith, length-set, get_or-set_other, get_or-set_same, below_more}
use Rattle.sha256.specs.Fips180.{◌⊞◌, Value, plus, rounds, compress}
use Rattle.sha256.specs.Private.{value_of}
use Rattle.sha256.proofs.compression.compress.Goals as goal

pub loop-i-preserved : goal.loop-i-preserved
loop-i-preserved c =
    let turn = c.loop-i in
    let inside : turn.i < length turn.state = omega arith in record {
      len = simp length-set turn.invariant.len;
      done = below_more _ _
          (λ k h. let other : k ≢ turn.i = omega arith in rw get_or-set_other (turn.invariant.done k h))
          (rw get_or-set_same (ap (λ (x : ℕ). x ⊞ get_or c.rounds.new.v turn.i 0) (turn.invariant.left turn.i (omega arith))));
      left = λ k h. let other : k ≢ turn.i = omega arith in rw get_or-set_other (turn.invariant.left k (omega arith));
    }

pub returns : goal.returns
unfolding compress plus
returns c =
    let start : Value = value_of c.args.state.now in
    let e : (k : ℕ) → k < 8 → get_or c.loop-i.state k 0 ≡ get_or c.args.state.now k 0 ⊞ get_or c.rounds.new.v k 0 =
    λ k h. c.loop-i.invariant.done k (omega arith) in
    let sums : value_of c.loop-i.state ≡ plus start (value_of c.rounds.new.v) =
    rw (e 0 (omega arith), e 1 (omega arith), e 2 (omega arith), e 3 (omega arith), e 4 (omega arith), e 5 (omega arith), e 6 (omega arith), e 7 (omega arith)) in
    sums ∙ ap (plus start) (c.rounds.ensures ∙ ap (λ (ws : List ℕ). rounds 64 ws start) c.schedule.ensures)
