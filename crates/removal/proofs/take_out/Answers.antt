-- `removal::take_out` meets its contract.
use Prim.Native.Nat.{◌*◌, ◌≤◌}
use native.Mathlib.Omega.{arith}
use lib.ListN.{length}
use Rattle.message.specs.Code.{ids_in}
use Rattle.removal.proofs.Removing.{unmarked_is}
use Rattle.removal.proofs.take_out.Goals as goal

pub returns-else-fitting-size : goal.returns-else-fitting-size
returns-else-fitting-size c =
    let a = c.args in
    let k = c.keep_unmarked in
    let room : a.size ≤ length a.marks.now * 8 = omega arith in
    let e = unmarked_is _ (ids_in a.m a.ids.now) (ids_in a.size a.list.now) (c.requires.5 room) in
    record { value = let z = rw e at k.ensures.value in omega arith; list_after = rw e at k.ensures.list_after }
