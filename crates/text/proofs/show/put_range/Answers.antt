use Rattle.std.proofs.Common.{take, ap, ◌∙◌}
use Rattle.text.specs.Text.{put}
use Rattle.text.proofs.Putting.{put_front}
use Rattle.text.proofs.show.put_range.Goals as goal

pub returns-clause-out_after : goal.returns-clause-out_after
returns-clause-out_after c =
    let p = c.put_line-n in
    c.copy.ensures.out_after ∙ ap (λ t. put t c.args.out.now) (ap (take p.result) p.ensures.out_after ∙ (put_front _ _ p.result p.ensures.value.0).0)
