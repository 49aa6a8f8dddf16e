-- `sending::put::measure` meets its contract.
use mathlib.Core.Bool.{true, false}
use mathlib.Core.Path.{◌≡◌, refl, sym, ap, ◌∙◌}
use native.Mathlib.Omega.{arith}
use lib.ListN.{replicate}
use borrow.Author.Tests.{leb-true, leb-false}
use Rattle.std.specs.Prelude.{Some}
use Rattle.std.proofs.lemmas.Result.{IfOk-at_ok}
use Rattle.message.specs.WellFormed.{Bytes}
use Rattle.message.proofs.Order.{small_bytes}
use Rattle.writer.specs.Stream.{before}
use Rattle.writer.specs.Handover.{is_taken, after, HandsOver}
use Rattle.writer.specs.Writing.{started, verdict_of}
use Rattle.writer.specs.declared.write.Writer.{Writer}
use Rattle.table.specs.Code.{lent}
use Rattle.cutting.specs.Code.{cut_of}
use Rattle.sending.specs.Private.{to_send}
use Rattle.sending.proofs.Sending.{sent-rises, fits-told, over-told, none-refused, some-ok, no_start, start-room, measured, measured_length}
use Rattle.sending.proofs.put.measure.Goals as goal

pub returns-in_err-writer : goal.returns-in_err-writer
returns-in_err-writer c =
    let none = none-refused c.start.result (sym c.ok.ensures.value ∙ c.in_err-writer.was) in
    c.from_residual.ensures ∙ sym (over-told _ _ (no_start _ _ (sym (ap is_taken c.start.ensures.verdict_value) ∙ none)))

pub returns-in_err-ok : goal.returns-in_err-ok
returns-in_err-ok c =
    let a = c.args in
    let by : Bytes a.own.now = small_bytes a.own.now (λ k. omega (arith, c.type_inv.own k)) in
    let bm : Bytes a.m.now = small_bytes a.m.now (λ k. omega (arith, c.type_inv.m k)) in
    let begun = some-ok c.start.result _ (sym c.ok.ensures.value ∙ c.in_ok-writer.was) in
    let room = start-room _ (sym (ap is_taken c.start.ensures.verdict_value) ∙ rw begun refl) in
    let handed : HandsOver false (to_send a.kind (cut_of a.cut) (lent a.times.now a.own.now) a.m.now) (before started (replicate a.size 0)) (after c.put_message.result c.put_message.new.writer (replicate a.size 0)) =
    rw (IfOk-at_ok (λ (w : Writer). w ≡ started) begun c.start.ensures.writer_value) at c.put_message.ensures in
    let told = measured _ a.size _ handed (sent-rises (lent a.times.now a.own.now) (cut_of a.cut) by c.requires.0 c.requires.1 a.kind a.m.now bm c.requires.2) room in
    let none = none-refused c.put_message.result (sym c.ok-2.ensures.value ∙ c.in_err-ok.was) in
    c.from_residual-in_err-ok.ensures ∙ sym (over-told _ _ (leb-false _ _ (sym told ∙ none)))

pub returns : goal.returns
returns c =
    let a = c.args in
    let by : Bytes a.own.now = small_bytes a.own.now (λ k. omega (arith, c.type_inv.own k)) in
    let bm : Bytes a.m.now = small_bytes a.m.now (λ k. omega (arith, c.type_inv.m k)) in
    let begun = some-ok c.start.result _ (sym c.ok.ensures.value ∙ c.in_ok-writer.was) in
    let room = start-room _ (sym (ap is_taken c.start.ensures.verdict_value) ∙ rw begun refl) in
    let handed : HandsOver false (to_send a.kind (cut_of a.cut) (lent a.times.now a.own.now) a.m.now) (before started (replicate a.size 0)) (after c.put_message.result c.put_message.new.writer (replicate a.size 0)) =
    rw (IfOk-at_ok (λ (w : Writer). w ≡ started) begun c.start.ensures.writer_value) at c.put_message.ensures in
    let told = measured _ a.size _ handed (sent-rises (lent a.times.now a.own.now) (cut_of a.cut) by c.requires.0 c.requires.1 a.kind a.m.now bm c.requires.2) room in
    let all : is_taken (verdict_of c.put_message.result) ≡ true = rw (some-ok c.put_message.result _ (sym c.ok-2.ensures.value ∙ c.in_ok-ok.was)) refl in
    ap Some (measured_length _ a.size _ handed all) ∙ sym (fits-told _ _ (leb-true _ _ (sym told ∙ all)))
