use Rattle.std.proofs.Common.{◌≡◌, [], length, ap, ◌∙◌, arith, rules}
use Rattle.message.specs.Bound.{prefix}
use Rattle.message.specs.Code.{bound_of, payload_of}
use Rattle.text.specs.Text.{time_field, prefix_field, put}
use Rattle.text.specs.Private.{spaced, payload_fields}
use Rattle.text.proofs.Putting.{rest, prefix_short, line_is, three-put, length_part}
use Rattle.text.proofs.put_line.Goals as goal

pub put_prefix-requires : goal.put_prefix-requires
put_prefix-requires c =
    let a = c.args in
    let t = c.put_time-a in
    let whole : length a.range.prefix ≡ 32 = search rules in (
      omega (arith, prefix_short a.range.bound a.range.prefix _ c.prefix.ensures),
      omega (arith, length_part t.new.out t.result, t.ensures.value.1),
    )

pub returns : goal.returns
returns c =
    let a = c.args in
    let t = c.put_time-a in
    let p = c.put_prefix in
    let q = c.put_payload in
    let e = c.prefix.ensures in
    let time = spaced (time_field (bound_of a.range.bound [])) in
    let name = spaced (prefix_field (prefix (bound_of a.range.bound a.range.prefix))) in
    let load = payload_of a.range.payload a.m.now in
    let z =
    three-put time name (payload_fields load) a.out.now t.new.out p.new.out q.new.out t.result p.result q.result
    t.ensures.value.0 (p.ensures.value.0 ∙ ap (λ x. length (spaced (prefix_field x))) e) q.ensures.value.0 (omega arith)
    t.ensures.out_after (p.ensures.out_after ∙ ap (λ x. put (spaced (prefix_field x)) (rest t.result t.new.out)) e) q.ensures.out_after in
    rw (← line_is a.range.bound a.range.prefix load) record { value = (z.0, omega arith); out_after = z.1 }
