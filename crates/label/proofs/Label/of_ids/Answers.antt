-- `label::Label::of_ids` meets its contract. The invariant: the label is that of the ids so far, and what is left follows them.
use Rattle.std.proofs.Common.{ℕ, ◌≡◌, ◌+◌, ◌*◌, ◌^◌, ◌<◌, [], ◌∷◌, ◌++◌, length, ap, ◌∙◌, arith, length-append, length-drop, rules}
use Rattle.std.specs.Slice.Iter.{chunks_exact_rest, chunks_exact_size}
use Rattle.message.specs.Code.{ids_in}
use Rattle.label.specs.Label.{label_of}
use Rattle.label.specs.Code.{whole_ids}
use Rattle.label.proofs.Ids.{empty_is, label-part}
use Rattle.label.proofs.Label.of_ids.Goals as goal

pub loop-id-init : goal.loop-id-init
unfolding ids_in
loop-id-init c =
    let given = c.into_iter-id-iterator.ensures.into_iter_gives in
    let chunks = c.chunks_exact-id-items.ensures in
    record { size = ap chunks_exact_size given ∙ chunks.size; left = ap chunks_exact_rest given ∙ chunks.rest; fits = omega arith; sum = empty_is }

pub loop-id-preserved : goal.loop-id-preserved
loop-id-preserved c =
    let turn = c.loop-id in
    let step = c.in-Some.ensures.steps in
    let small : length c.args.ids.now < 2 ^ 64 = search rules in
    let more = length-append turn.yielded (c.in-Some.id ∷ []) in
    let next = label-part (length turn.yielded) _ c.args.ids.now _ c.in-Some.id.now _ _ _ _ more small turn.invariant.left step.1.0 (step.1.1 ∙ turn.invariant.size)
    turn.invariant.sum c.of_id.ensures c.add-label.ensures in
    record { size = step.0 ∙ turn.invariant.size; left = next.0; fits = next.1; sum = next.2 }

pub returns : goal.returns
unfolding whole_ids
returns c =
    let turn = c.loop-id in
    let ids = c.args.ids.now in
    let step = c.in-None.ensures.steps in
    turn.invariant.sum ∙ ap (λ (n : ℕ). label_of (ids_in n ids))
    (omega (arith, step.1.0, turn.invariant.size, ap length turn.invariant.left, length-drop (length turn.yielded * 32) ids, turn.invariant.fits))
