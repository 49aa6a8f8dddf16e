-- `judging::merge::is_below` meets its contract.
use mathlib.Core.Path.{ap₂, ◌∙◌}
use lib.Dec.{ltb}
use Rattle.judging.proofs.Judging.{edge_key}
use Rattle.judging.proofs.merge.is_below.Goals as goal

pub returns : goal.returns
returns c =
    let a = c.args in
    let x = edge_key a.a.bound a.a.prefix _ _ c.time.ensures c.prefix.ensures in
    let y = edge_key a.b.bound a.b.prefix _ _ c.time-2.ensures c.prefix-2.ensures in
    c.below.ensures ∙ ap₂ ltb x y
