-- `idlist::same_bytes` meets its contract.
use mathlib.Core.Path.{◌∙◌}
use Rattle.idlist.proofs.Searching.{same_pointwise}
use Rattle.idlist.proofs.same_bytes.Goals as goal

pub returns : goal.returns
returns c = c.eq.ensures ∙ same_pointwise c.args.p.now c.args.q.now
