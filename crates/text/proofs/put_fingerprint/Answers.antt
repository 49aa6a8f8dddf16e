use Rattle.std.proofs.Common.{◌≤◌, [], ◌∷◌, ◌++◌, length, drop, arith}
use Rattle.text.specs.Text.{newline, hex, payload_field}
use Rattle.text.specs.Private.{payload_fields}
use Rattle.text.proofs.Putting.{part_short, fingerprint_word, word_put, length_part}
use Rattle.text.proofs.put_fingerprint.Goals as goal

-- the fingerprint's bytes, or as many of them as there are
pub put_hex-requires : goal.put_hex-requires
put_hex-requires c =
    let s : length c.part.result.now ≤ 16 = part_short 16 (drop c.args.at c.args.m.now) _ c.part.ensures in
    (omega arith, omega (arith, length_part c.copy-k.new.out c.copy-k.result))

pub overflow_add-result : goal.overflow_add-result
overflow_add-result c =
    let s : length c.part.result.now ≤ 16 = part_short 16 (drop c.args.at c.args.m.now) _ c.part.ensures in
    omega arith

pub returns : goal.returns
unfolding payload_fields payload_field
returns c =
    let a = c.args in
    let f = c.part in
    let h = c.put_hex in
    let s : length f.result.now ≤ 16 = part_short 16 (drop a.at a.m.now) _ f.ensures in
    let field = hex f.result.now ++ (newline ∷ []) in
    let z = word_put fingerprint_word field a.out.now c.copy-k.new.out h.new.out c.copy-k.result h.result c.copy-k.ensures.value (omega arith) c.copy-k.ensures.out_after h.ensures.value.0 h.ensures.out_after in
    rw (← f.ensures) record { value = (z.0, omega arith); out_after = z.1 }
