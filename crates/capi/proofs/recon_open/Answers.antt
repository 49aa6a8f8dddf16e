-- `capi::recon_open` meets its contract.
use Rattle.capi.proofs.Openings.{opened_marks, opened_out}
use Rattle.capi.proofs.recon_open.Goals as goal

pub returns : goal.returns
returns c =
    let e = c.open_session.ensures in
    let o = c.open_session.new in
    record {
      result_value = rw e (c.tell_opened.ensures o.marks c.args.needed.now o.out);
      marks_after = rw e (opened_marks _ _ _ _);
      out_after = rw e (opened_out _ _ _ _);
    }
