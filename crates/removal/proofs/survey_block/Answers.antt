-- `removal::survey_block` meets its contract.
use native.Mathlib.Omega.{arith}
use Rattle.message.specs.Code.{ids_in}
use Rattle.removal.proofs.Removing.{window_left}
use Rattle.removal.proofs.survey_block.Goals as goal

pub overflow_sub-left : goal.overflow_sub-left
overflow_sub-left c =
    let a = c.args in
    (window_left _ (ids_in a.m a.ids.now) a.count a.list.now c.mark_all-found.ensures.marks_after c.count_bits.result c.count_bits.ensures).0

pub returns-clause-found_value : goal.returns-clause-found_value
returns-clause-found_value c =
    let a = c.args in
    let w = window_left _ (ids_in a.m a.ids.now) a.count a.list.now c.mark_all-found.ensures.marks_after c.count_bits.result c.count_bits.ensures in
    (c.mark_all-found.ensures.value, w.1, omega arith)
