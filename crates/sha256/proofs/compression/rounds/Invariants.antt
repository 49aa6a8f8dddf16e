use Rattle.std.proofs.Common.{◌≡◌, ◌*◌}
use Rattle.sha256.specs.Fips180.{rounds}
use Rattle.sha256.specs.Private.{value_of}
use Rattle.sha256.proofs.compression.rounds.Given as goal

abbrev pub invariant-loop-turn : goal.invariant-loop-turn
invariant-loop-turn l = value_of l.v ≡ rounds (8 * l.turn) l.w (value_of l.fn.v)

abbrev pub invariant-loop-t : goal.invariant-loop-t
invariant-loop-t l = value_of l.v ≡ rounds l.t l.w (value_of l.fn.v)
