use Rattle.std.proofs.Common.{[], ◌∷◌, ◌++◌, arith}
use Rattle.text.specs.Text.{newline, decimal, refusal_line}
use Rattle.text.proofs.Putting.{refused_word, word_put}
use Rattle.text.proofs.put_refusal.Goals as goal

pub returns : goal.returns
unfolding refusal_line
returns c =
    let a = c.args in
    let d = c.put_decimal in
    let field = decimal a.n ++ (newline ∷ []) in
    let z = word_put refused_word field a.out.now c.copy-k.new.out d.new.out c.copy-k.result d.result c.copy-k.ensures.value (omega arith) c.copy-k.ensures.out_after d.ensures.value.0 d.ensures.out_after in
    record { value = (z.0, omega arith); out_after = z.1 }
