-- `sending::send::send_short` meets its contract.
use Prim.Native.Nat.{ℕ, ◌+◌, ◌-◌, ◌≤◌, ◌<◌}
use mathlib.Core.Path.{◌≡◌, sym, ap, ◌∙◌}
use mathlib.Core.Bool.{false}
use mathlib.Core.List.{List}
use native.Mathlib.Omega.{arith}
use lib.ListN.{length}
use lib.Seq.{length-take-le}
use Rattle.message.specs.Message.{Range}
use Rattle.message.specs.Meaning.{write_message}
use Rattle.message.specs.WellFormed.{Bytes}
use Rattle.message.proofs.Exact.{differ}
use Rattle.message.proofs.Order.{small_bytes}
use Rattle.writer.specs.Writing.{taken, refused, verdict_of}
use Rattle.table.specs.Code.{lent}
use Rattle.table.specs.Table.{Table, items}
use Rattle.cutting.specs.Code.{cut_of}
use Rattle.limit.specs.Limit.{bytes, below_least, sent_message}
use Rattle.limit.proofs.Sizes.{least-room}
use Rattle.shorten.specs.Private.{Stopped, Closes}
use Rattle.shorten.specs.declared.Stop.{Stop}
use Rattle.shorten.specs.declared.Closing.{Closing}
use Rattle.sending.specs.Private.{to_send}
use Rattle.sending.proofs.Sending.{sent-rises, no_room, has-sent}
use Rattle.sending.proofs.Closed.{run_room, measured-taken, closed_at, written-taken, closed-out, run-written}
use Rattle.sending.proofs.send.send_short.Goals as goal

back : (most : ℕ) → below_least (bytes most) ≡ false → most - 19 + 19 ≡ most
back most least = let r = least-room most least in omega arith

-- what `close` promises
closes : (most : ℕ) (T : Table) (whole : List Range) (stop : Stop) (k : Closing) → below_least (bytes most) ≡ false → most < length (write_message whole)
    → (s : Stopped (most - 19) T whole stop) → ((rs : List Range) (s : Stopped (most - 19) T rs stop) → most - 19 + 19 < length (write_message rs) → Closes (most - 19) T rs s.done k)
    → Closes (most - 19) T whole s.done k
closes most T whole stop k least over s f = f whole s (let e = back most least in omega arith)

pub overflow_sub-size : goal.overflow_sub-size
overflow_sub-size c = omega (arith, least-room c.args.most c.requires.3)

pub stop_message-stop-requires : goal.stop_message-stop-requires
stop_message-stop-requires c =
    let r = least-room c.args.most c.requires.3 in
    let x = c.requires.4 in
    (c.requires.0, c.requires.1, c.requires.2, omega arith, omega arith)

pub put_closing-requires : goal.put_closing-requires
put_closing-requires c =
    let k = closes _ _ _ _ _ c.requires.3 c.requires.4 c.stop_message-stop.ensures.0 c.close-closing.ensures in
    (c.requires.0, k.span, k.fewer, k.place)

pub returns-in_err-put_closing : goal.returns-in_err-put_closing
returns-in_err-put_closing c =
    let a = c.args in
    let k = closes _ _ _ _ _ c.requires.3 c.requires.4 c.stop_message-stop.ensures.0 c.close-closing.ensures in
    let e : taken ≡ refused _ =
    sym (measured-taken (lent a.times.now a.own.now) (a.most - 19) a.most (back a.most c.requires.3) _ _ c.close-closing.result k c.requires.3 _ c.put_closing.ensures)
    ∙ ap verdict_of c.in_err-put_closing.was in
    differ (cc)

pub returns-then-out-end : goal.returns-then-out-end
returns-then-out-end c =
    let a = c.args in
    let k = closes _ _ _ _ _ c.requires.3 c.requires.4 c.stop_message-stop.ensures.0 c.close-closing.ensures in
    let measured = closed_at (lent a.times.now a.own.now) (a.most - 19) a.most (back a.most c.requires.3) _ _ c.close-closing.result k c.requires.3 _ c.put_closing.ensures in
    no_room _ a.out.now (omega arith)

pub slice_bounds-write-end : goal.slice_bounds-write-end
slice_bounds-write-end c =
    let a = c.args in
    let k = closes _ _ _ _ _ c.requires.3 c.requires.4 c.stop_message-stop.ensures.0 c.close-closing.ensures in
    let measured = closed_at (lent a.times.now a.own.now) (a.most - 19) a.most (back a.most c.requires.3) _ _ c.close-closing.result k c.requires.3 _ c.put_closing.ensures in
    run_room (lent a.times.now a.own.now) (a.most - 19) a.most (back a.most c.requires.3) _ _ c.close-closing.result k a.out.now (omega arith)

pub slice_bounds-write-end-2 : goal.slice_bounds-write-end-2
slice_bounds-write-end-2 c =
    let a = c.args in
    let k = closes _ _ _ _ _ c.requires.3 c.requires.4 c.stop_message-stop.ensures.0 c.close-closing.ensures in
    let measured = closed_at (lent a.times.now a.own.now) (a.most - 19) a.most (back a.most c.requires.3) _ _ c.close-closing.result k c.requires.3 _ c.put_closing.ensures in
    sym (length-take-le c.close-closing.result.writer.at a.out.now (run_room (lent a.times.now a.own.now) (a.most - 19) a.most (back a.most c.requires.3) _ _ c.close-closing.result k a.out.now (omega arith)))

pub put_closing-requires-2 : goal.put_closing-requires-2
put_closing-requires-2 c =
    let k = closes _ _ _ _ _ c.requires.3 c.requires.4 c.stop_message-stop.ensures.0 c.close-closing.ensures in
    (c.requires.0, k.span, k.fewer, k.place)

pub returns-in_err-put_closing-2 : goal.returns-in_err-put_closing-2
returns-in_err-put_closing-2 c =
    let a = c.args in
    let T : Table = lent a.times.now a.own.now in
    let e = back a.most c.requires.3 in
    let s = c.stop_message-stop.ensures.0 in
    let close = c.close-closing.result in
    let k = closes _ T _ _ _ c.requires.3 c.requires.4 s c.close-closing.ensures in
    let measured = closed_at T (a.most - 19) a.most e _ _ close k c.requires.3 _ c.put_closing.ensures in
    let room : length (sent_message (bytes a.most) (items T) (to_send a.kind (cut_of a.cut) T a.m.now)) ≤ length a.out.now = omega arith in
    let by : Bytes a.own.now = small_bytes a.own.now (λ k. omega (arith, c.type_inv.own k)) in
    let bm : Bytes a.m.now = small_bytes a.m.now (λ k. omega (arith, c.type_inv.m k)) in
    let well = sent-rises T (cut_of a.cut) by c.requires.0 c.requires.1 a.kind a.m.now bm c.requires.2 in
    let run = run-written T (a.most - 19) a.most e _ _ s close k a.out.now room well c.requires.4 _ c.write.ensures in
    let z : taken ≡ refused _ = sym (written-taken T (a.most - 19) a.most e _ _ close k a.out.now room _ run _ c.put_closing-2.ensures) ∙ ap verdict_of c.in_err-put_closing-2.was in
    differ (cc)

pub returns : goal.returns
returns c =
    let a = c.args in
    let T : Table = lent a.times.now a.own.now in
    let e = back a.most c.requires.3 in
    let s = c.stop_message-stop.ensures.0 in
    let close = c.close-closing.result in
    let k = closes _ T _ _ _ c.requires.3 c.requires.4 s c.close-closing.ensures in
    let measured = closed_at T (a.most - 19) a.most e _ _ close k c.requires.3 _ c.put_closing.ensures in
    let room : length (sent_message (bytes a.most) (items T) (to_send a.kind (cut_of a.cut) T a.m.now)) ≤ length a.out.now = omega arith in
    let by : Bytes a.own.now = small_bytes a.own.now (λ k. omega (arith, c.type_inv.own k)) in
    let bm : Bytes a.m.now = small_bytes a.m.now (λ k. omega (arith, c.type_inv.m k)) in
    let well = sent-rises T (cut_of a.cut) by c.requires.0 c.requires.1 a.kind a.m.now bm c.requires.2 in
    let run = run-written T (a.most - 19) a.most e _ _ s close k a.out.now room well c.requires.4 _ c.write.ensures in
    has-sent _ a.out.now _ _ room measured (closed-out T (a.most - 19) a.most e _ _ close k a.out.now room _ run _ c.put_closing-2.ensures)
