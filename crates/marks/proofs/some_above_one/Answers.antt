-- `marks::some_above_one` meets its contract.
use Rattle.std.proofs.Common.{◌∙◌, rules, tests}
use Rattle.std.proofs.lemmas.Iterator.{YieldsList-from_slice}
use Rattle.std.proofs.lemmas.Iterator.Search.{any_from_yields_List}
use lib.Dec.{ltb}
use Rattle.marks.proofs.Marking.{some-list_any}
use Rattle.marks.proofs.some_above_one.Goals as goal

pub returns : goal.returns
returns c =
    let m = c.args.marks.now in
    any_from_yields_List (ltb 1) _ _ _ c.any.ensures.ran (YieldsList-from_slice m cc) (λ x b q k. search (rules, tests)) ∙ some-list_any (ltb 1) m
