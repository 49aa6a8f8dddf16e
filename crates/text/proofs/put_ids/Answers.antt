use Rattle.std.proofs.Common.{[], ◌∷◌, ◌++◌, arith}
use Rattle.message.proofs.Forms.{ids-count}
use Rattle.text.specs.Text.{newline, decimal, payload_field}
use Rattle.text.specs.Private.{payload_fields}
use Rattle.text.proofs.Putting.{ids_word, word_put}
use Rattle.text.proofs.put_ids.Goals as goal

pub returns : goal.returns
unfolding payload_fields payload_field
returns c =
    let a = c.args in
    let d = c.put_decimal in
    let field = decimal a.count ++ (newline ∷ []) in
    let z = word_put ids_word field a.out.now c.copy-k.new.out d.new.out c.copy-k.result d.result c.copy-k.ensures.value (omega arith) c.copy-k.ensures.out_after d.ensures.value.0 d.ensures.out_after in
    rw ids-count record { value = (z.0, omega arith); out_after = z.1 }
