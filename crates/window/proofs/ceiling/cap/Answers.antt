-- `window::ceiling::cap` meets its contract.
use native.Mathlib.Omega.{arith}
use lib.ListN.{get_or}
use Rattle.idlist.specs.Positions.{key_at}
use Rattle.window.proofs.Selecting.{capped_at}
use Rattle.window.proofs.ceiling.cap.Goals as goal

-- the largest of the smallest ids is the ceiling
pub returns : goal.returns
unfolding key_at
returns c =
    let t = c.smallest_listed-n in
    capped_at c.args.m.now c.args.interval c.requires.2 c.requires.3 (get_or t.new.pos 0 0) (t.ensures.0.points 0 (omega arith)) (t.ensures.1 0 (omega arith))
