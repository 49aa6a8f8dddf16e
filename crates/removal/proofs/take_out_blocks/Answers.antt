-- `removal::take_out_blocks` meets its contract. The invariant: the first lo ids are passed, `TakingOut`.
use Prim.Native.Nat.{◌*◌, ◌≤◌}
use native.Mathlib.Omega.{arith}
use lib.ListN.{length}
use Rattle.message.specs.Code.{ids_in}
use Rattle.message.proofs.Order.{small_bytes}
use Rattle.removal.proofs.Removing.{window_rises, taking-starts, taking-few, taking-behind, taking_goes}
use Rattle.removal.proofs.take_out_blocks.Goals as goal

pub loop-lo-init : goal.loop-lo-init
loop-lo-init c =
    let a = c.args in
    record { few = omega arith; small = small_bytes a.list.now (λ k. omega (arith, c.type_inv.list k)); passed = taking-starts (ids_in a.m a.ids.now) a.list.now }

pub keep_in_block-kept-requires : goal.keep_in_block-kept-requires
keep_in_block-kept-requires c =
    let a = c.args in
    let l = c.loop-lo in
    let v = l.invariant in
    let us = ids_in a.m a.ids.now in
    let long = v.passed.long in
    let inside : l.lo * 32 ≤ length a.list.now = omega arith in (
      taking-few us a.list.now v.small l.list l.kept l.lo v.passed inside,
      omega arith,
      c.requires.1,
      omega arith,
      rw (taking-behind us a.list.now v.small l.list l.kept l.lo v.passed inside) (window_rises a.list.now a.size l.lo c.fitting-count.result (omega arith) c.requires.2),
      omega arith,
    )

pub loop-lo-preserved : goal.loop-lo-preserved
loop-lo-preserved c =
    let a = c.args in
    let l = c.loop-lo in
    let v = l.invariant in
    let k = c.keep_in_block-kept in
    record {
      few = omega arith;
      small = v.small;
      passed = taking_goes (ids_in a.m a.ids.now) a.list.now v.small l.list l.kept l.lo v.passed (omega arith) c.fitting-count.result
          (omega arith) k.result _ k.ensures.value k.ensures.list_after k.auto.list;
    }
