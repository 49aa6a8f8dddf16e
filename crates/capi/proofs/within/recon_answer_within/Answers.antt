-- `capi::within::recon_answer_within` meets its contract.
use mathlib.Core.Path.{refl}
use Rattle.capi.proofs.within.recon_answer_within.Goals as goal

pub returns : goal.returns
returns c =
    let a = c.args in
    let called = c.answer_query in
    let e = called.ensures in
    record { value = rw (c.tell.ensures, e) refl; out_after = rw e refl }
