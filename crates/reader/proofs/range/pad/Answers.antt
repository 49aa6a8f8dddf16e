use Rattle.std.proofs.Common.{◌++◌, length, ap}
use Rattle.std.proofs.lemmas.List.{drop-replicate}
use Rattle.reader.specs.Answers.{padded}
use Rattle.reader.proofs.range.pad.Goals as goal

pub returns : goal.returns
unfolding padded
returns c = rw c.copy_from_slice.ensures.after (ap (λ z. c.args.p.now ++ z) (drop-replicate (length c.args.p.now) 32 0))
