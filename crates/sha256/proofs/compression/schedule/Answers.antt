-- `sha256::compression::schedule` meets its contract. The invariant: the first t words are the schedule's. Assumes nothing.
use Rattle.std.proofs.Common.{◌≡◌, refl, sym, ◌∙◌, arith, length-set, take_all}
use Rattle.sha256.specs.Fips180.{words, extend, schedule}
use Rattle.sha256.proofs.Rounds.{word_more, next_more}
use Rattle.sha256.proofs.compression.schedule.Goals as goal

pub loop-t-init : goal.loop-t-init
unfolding words
loop-t-init c = (refl, refl)

pub loop-t-preserved : goal.loop-t-preserved
loop-t-preserved c =
    let turn = c.loop-t in (
      simp length-set turn.invariant.0,
      rw (c.from_be_bytes.ensures, c.as_chunks.ensures.front) (word_more turn.w c.args.block.now turn.t _ (omega arith) (omega arith) turn.invariant.1),
    )

pub loop-t-2-init : goal.loop-t-2-init
unfolding extend
loop-t-2-init c =
    let e : c.loop-t.t ≡ 16 = omega arith in
    (c.loop-t.invariant.0, rw e at c.loop-t.invariant.1)

pub loop-t-2-preserved : goal.loop-t-2-preserved
loop-t-2-preserved c =
    let turn = c.loop-t-2 in (
      simp length-set turn.invariant.0,
      next_more turn.w (words 16 c.args.block.now) turn.t _ (omega arith) (omega arith) turn.invariant.1
          (rw (c.small_sigma1.ensures, c.small_sigma0.ensures)),
    )

pub returns : goal.returns
unfolding schedule
returns c =
    let turn = c.loop-t-2 in
    let e : turn.t ≡ 64 = omega arith in
    sym (take_all 64 turn.w (omega arith)) ∙ rw e at turn.invariant.1
