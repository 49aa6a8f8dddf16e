-- `removal::survey_blocks` meets its contract. The invariant: the first lo ids are passed, `Surveyed`.
use Prim.Native.Nat.{◌*◌}
use native.Mathlib.Omega.{arith}
use Rattle.message.specs.Code.{ids_in}
use Rattle.message.proofs.Forms.{ids-count}
use Rattle.writer.proofs.Laying.{rest, rest_is, rest-length}
use Rattle.removal.proofs.Removing.{window_rises, left-few}
use Rattle.removal.proofs.Surveying.{found-most, surveyed_none, surveyed_next}
use Rattle.removal.proofs.survey_blocks.Goals as goal

pub loop-lo-init : goal.loop-lo-init
loop-lo-init c = record { few = omega arith; passed = surveyed_none (ids_in c.args.m c.args.ids.now) c.args.list.now }

pub survey_block-block-requires : goal.survey_block-block-requires
survey_block-block-requires c =
    let a = c.args in
    let l = c.loop-lo in (
      omega (arith, rest-length (l.lo * 32) a.list.now),
      c.requires.1,
      omega arith,
      rw (rest_is (l.lo * 32) a.list.now) (window_rises a.list.now a.size l.lo c.fitting-count.result (omega arith) c.requires.2),
      omega arith,
    )

pub overflow_add-found : goal.overflow_add-found
overflow_add-found c =
    let a = c.args in
    let l = c.loop-lo in
    let us = ids_in a.m a.ids.now in
    let e = l.invariant.passed.in_list in
    let f = c.survey_block-block.ensures.found_value.0 in
    omega (arith, found-most us (ids_in l.lo a.list.now), found-most us (ids_in c.fitting-count.result (rest (l.lo * 32) a.list.now)), ids-count a.m a.ids.now)

pub overflow_add-left : goal.overflow_add-left
overflow_add-left c =
    let a = c.args in
    let l = c.loop-lo in
    let e = l.invariant.passed.others in
    let f = c.survey_block-block.ensures.found_value.2 in
    omega (arith, left-few (ids_in a.m a.ids.now) l.lo a.list.now)

pub loop-lo-preserved : goal.loop-lo-preserved
loop-lo-preserved c =
    let a = c.args in
    let l = c.loop-lo in
    let t = c.survey_block-block in
    let told = rw (rest_is (l.lo * 32) a.list.now) at t.ensures.found_value in
    record {
      few = omega arith;
      passed = surveyed_next (ids_in a.m a.ids.now) a.list.now a.size l.lo c.fitting-count.result c.requires.2 (omega arith) l.found l.left t.result.found t.result.left
          l.invariant.passed told.0 told.1;
    }
