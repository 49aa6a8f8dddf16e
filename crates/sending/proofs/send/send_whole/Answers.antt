-- `sending::send::send_whole` meets its contract.
use Prim.Native.Nat.{◌≤◌}
use mathlib.Core.Path.{◌≡◌, sym, ap, ◌∙◌}
use mathlib.Core.List.{List}
use native.Mathlib.Omega.{arith}
use lib.ListN.{length}
use Rattle.message.specs.Meaning.{write_message}
use Rattle.message.specs.Message.{Range}
use Rattle.message.specs.WellFormed.{Bytes}
use Rattle.message.proofs.Exact.{differ}
use Rattle.message.proofs.Order.{small_bytes}
use Rattle.writer.specs.Writing.{taken, refused, verdict_of}
use Rattle.table.specs.Code.{lent}
use Rattle.cutting.specs.Code.{cut_of}
use Rattle.sending.specs.Private.{to_send}
use Rattle.sending.proofs.Sending.{sent-rises, all-taken, sent-out, has-sent}
use Rattle.sending.proofs.send.send_whole.Goals as goal

pub returns-in_err-write : goal.returns-in_err-write
returns-in_err-write c =
    let a = c.args in
    let whole : List Range = to_send a.kind (cut_of a.cut) (lent a.times.now a.own.now) a.m.now in
    let by : Bytes a.own.now = small_bytes a.own.now (λ k. omega (arith, c.type_inv.own k)) in
    let bm : Bytes a.m.now = small_bytes a.m.now (λ k. omega (arith, c.type_inv.m k)) in
    let rise = sent-rises (lent a.times.now a.own.now) (cut_of a.cut) by c.requires.0 c.requires.1 a.kind a.m.now bm c.requires.2 in
    let room : length (write_message whole) ≤ length a.out.now = omega (arith, c.requires.3) in
    let e : taken ≡ refused _ = sym (all-taken whole a.out.now _ rise room c.write.ensures) ∙ ap verdict_of c.in_err-write.was in
    differ (cc)

pub returns : goal.returns
returns c =
    let a = c.args in
    let whole : List Range = to_send a.kind (cut_of a.cut) (lent a.times.now a.own.now) a.m.now in
    let by : Bytes a.own.now = small_bytes a.own.now (λ k. omega (arith, c.type_inv.own k)) in
    let bm : Bytes a.m.now = small_bytes a.m.now (λ k. omega (arith, c.type_inv.m k)) in
    let rise = sent-rises (lent a.times.now a.own.now) (cut_of a.cut) by c.requires.0 c.requires.1 a.kind a.m.now bm c.requires.2 in
    let room : length (write_message whole) ≤ length a.out.now = omega (arith, c.requires.3) in
    has-sent (write_message whole) a.out.now _ _ room c.requires.3 (sent-out whole a.out.now _ rise room c.write.ensures)
