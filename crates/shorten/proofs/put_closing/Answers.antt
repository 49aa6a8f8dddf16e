-- `shorten::put_closing` meets its contract.
use mathlib.Core.Path.{◌≡◌, ap}
use mathlib.Core.List.{[], ◌∷◌}
use native.Mathlib.Omega.{arith}
use lib.ListN.{length}
use Rattle.std.proofs.lemmas.Result.{err_from_is_err_and}
use Rattle.message.specs.Bound.{infinity}
use Rattle.message.specs.Message.{range, fingerprint}
use Rattle.writer.specs.Writing.{verdict_of}
use Rattle.writer.specs.Handover.{writes}
use Rattle.writer.proofs.Handover.{hands_then, hands_stop}
use Rattle.table.specs.Code.{lent}
use Rattle.cutting.specs.Cutting.{fingerprint_of}
use Rattle.cutting.specs.Private.{run, own_in}
use Rattle.limit.specs.Limit.{first_ids}
use Rattle.shorten.proofs.Finishing.{closing_none, closing_first}
use Rattle.shorten.proofs.put_closing.Goals as goal
use Rattle.shorten.proofs.put_closing.Goals.{then-closing-gt0+in_ok-put_first_ids, else-closing-gt0}

pub returns-in_err-put_first_ids : goal.returns-in_err-put_first_ids
returns-in_err-put_first_ids c =
    let a = c.args in
    let p = err_from_is_err_and c.from_residual.result c.from_residual.ensures.1 in
    let was = c.in_err-put_first_ids.was in
    let same : c.from_residual.result ≡ c.put_first_ids.result = cc in
    rw (same, closing_first (lent a.times.now a.own.now) a.closing c.if-closing-gt0.true)
    (hands_stop (writes a.pass) (first_ids (own_in (lent a.times.now a.own.now) a.closing.span) a.closing.count ∷ [])
    (range infinity (fingerprint (fingerprint_of (run (lent a.times.now a.own.now) a.closing.from (length a.times.now)))) ∷ []) _ _ c.put_first_ids.ensures _ (ap verdict_of was))

pub returns : goal.returns
returns c =
    let a = c.args in
    elim c.if-closing-gt0.branch [
      | then-closing-gt0+in_ok-put_first_ids w ↦
          let was = w.in_ok-put_first_ids.was in
          rw (closing_first (lent a.times.now a.own.now) a.closing w.if-closing-gt0.true)
          (hands_then (writes a.pass) (first_ids (own_in (lent a.times.now a.own.now) a.closing.span) a.closing.count ∷ [])
          (range infinity (fingerprint (fingerprint_of (run (lent a.times.now a.own.now) a.closing.from (length a.times.now)))) ∷ []) _ _ w.put_first_ids.ensures (ap verdict_of was) _
          (rw (was, ← w.writer-is, ← w.out-is) c.put_last.ensures))
      | else-closing-gt0 w ↦
          rw (closing_none (lent a.times.now a.own.now) a.closing (omega (arith, w.if-closing-gt0.false)), ← w.writer-is, ← w.out-is) c.put_last.ensures
    ]
