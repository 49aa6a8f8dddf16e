use Rattle.std.proofs.Common.{◌*◌, length, arith, sym, refl}
use Rattle.text.specs.Text.{hex}
use Rattle.text.proofs.Putting.{put-end, length-hex}
use Rattle.text.proofs.put_hex.Goals as goal

pub returns : goal.returns
returns c =
    let a = c.args in
    let d = c.put_pairs in
    let z = put-end (hex a.s.now) a.out.now d.new.out (length a.s.now * 2) a.end (sym (length-hex a.s.now)) (omega (arith, length-hex a.s.now)) d.ensures in
    record { value = (z.0, refl); out_after = z.1 }
