-- `labeltree::append::renew_above` meets its contract. The invariant: what is left to be made afresh gives what was asked for.
use mathlib.Core.Path.{◌≡◌, refl, sym, subst}
use Prim.Native.Nat.{ℕ, ◌+◌, ◌-◌, ◌/◌, ◌<◌}
use native.Mathlib.Omega.{arith}
use native.Mathlib.Nat.{sub-zero}
use lib.ListN.{length}
use Rattle.tree.specs.Tree.{renew_above}
use Rattle.tree.specs.Private.{Above}
use Rattle.tree.proofs.Climbing.{renew_turn, renew-none, above-some, above-next, above-room}
use Rattle.labeltree.proofs.append.renew_above.Goals as goal

pub loop-init : goal.loop-init
loop-init c = record { rest = rw (sub-zero c.args.levels) refl; above = rw (sub-zero c.args.levels) c.requires }

pub overflow_sub-at : goal.overflow_sub-at
overflow_sub-at c = let l = c.loop in above-some (length l.tree) (c.args.levels - l.counter) l.at (omega arith) l.invariant.above

pub renew-requires : goal.renew-requires
renew-requires c = let l = c.loop in above-room (length l.tree) (c.args.levels - l.counter) l.at (omega arith) l.invariant.above

pub loop-preserved : goal.loop-preserved
loop-preserved c =
    let l = c.loop in
    let left : ℕ = c.args.levels - l.counter in
    let some : 0 < left = omega arith in
    let next : c.args.levels - (l.counter + 1) ≡ left - 1 = omega arith in
    record {
      rest = rw next (renew_turn left l.at l.tree c.renew.new.tree (renew_above c.args.levels c.args.i c.args.tree.now) some l.invariant.rest c.renew.ensures);
      above = rw next (subst (λ (n : ℕ). Above n (left - 1) ((l.at - 1) / 2)) (sym c.renew.auto.tree) (above-next (length l.tree) left l.at some l.invariant.above));
    }

pub returns : goal.returns
returns c =
    let l = c.loop in
    renew-none (c.args.levels - l.counter) l.at l.tree (renew_above c.args.levels c.args.i c.args.tree.now) (omega arith) l.invariant.rest
