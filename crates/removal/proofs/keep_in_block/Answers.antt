-- `removal::keep_in_block` meets its contract.
use Prim.Native.Nat.{◌*◌}
use lib.ListN.{drop}
use Rattle.message.specs.Code.{ids_in}
use Rattle.writer.proofs.Laying.{rest_is}
use Rattle.removal.proofs.Removing.{unmarked_is}
use Rattle.removal.proofs.keep_in_block.Goals as goal

pub returns : goal.returns
returns c =
    let a = c.args in
    let k = c.keep_unmarked in
    let e = unmarked_is _ (ids_in a.m a.ids.now) (ids_in a.count (drop (a.lo * 32) a.list.now)) (rw (rest_is (a.lo * 32) a.list.now) at c.mark_all.ensures.marks_after) in
    record { value = rw e at k.ensures.value; list_after = rw e at k.ensures.list_after }
