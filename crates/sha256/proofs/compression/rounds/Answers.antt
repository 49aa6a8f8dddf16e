-- `sha256::compression::rounds` meets its contract. The invariant: v is what t rounds make of the v that was passed. Assumes nothing.
use Rattle.std.proofs.Common.{refl}
use Rattle.sha256.specs.Fips180.{K, rounds}
use Rattle.sha256.specs.Private.{value_of}
use Rattle.sha256.proofs.Rounds.{round-more}
use Rattle.sha256.proofs.compression.rounds.Goals as goal

pub loop-turn-init : goal.loop-turn-init
unfolding rounds
loop-turn-init c = refl

pub loop-t-preserved : goal.loop-t-preserved
unfolding K
loop-t-preserved c =
    round-more c.loop-t.t c.args.w.now (value_of c.loop-t.v) (value_of c.args.v.now) _ c.loop-t.invariant c.round.ensures
