use Rattle.std.proofs.Common.{refl, arith}
use Rattle.std.proofs.lemmas.Result.{err_from_is_err_and}
use Rattle.message.specs.Message.{read_of_mode, read_payload}
use Rattle.reader.proofs.ReadingPayloads.{mode_is, mode_other}
use Rattle.reader.proofs.Steps.{onward}
use Rattle.reader.proofs.varint.Cursor.payload.Goals as goal

pub returns-in_err-mode : goal.returns-in_err-mode
unfolding read_payload
returns-in_err-mode c =
    let p = err_from_is_err_and c.from_residual.result c.from_residual.ensures.1 in
    rw (p.1, p.2) (onward _ c.in_err-mode.ensures.0 refl, tt)

pub returns-in-0 : goal.returns-in-0
unfolding read_payload read_of_mode
returns-in-0 c = (onward _ c.in_ok-mode.ensures.0 (mode_is _ 0 _ c.in-0.is refl), (tt, c.in_ok-mode.ensures.1))

pub returns-in-1 : goal.returns-in-1
unfolding read_payload
returns-in-1 c = (onward _ c.in_ok-mode.ensures.0 (mode_is _ 1 _ c.in-1.is c.fingerprint.ensures.0), c.fingerprint.ensures.1)

pub returns-in-2 : goal.returns-in-2
unfolding read_payload
returns-in-2 c = (onward _ c.in_ok-mode.ensures.0 (mode_is _ 2 _ c.in-2.is c.ids.ensures.0), c.ids.ensures.1)

pub returns-in_default : goal.returns-in_default
unfolding read_payload
returns-in_default c = (onward _ c.in_ok-mode.ensures.0 (mode_other _ _ (omega arith)), tt)
