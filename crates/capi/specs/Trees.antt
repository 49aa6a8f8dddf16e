-- What the calls on trees answer.
use Rattle.tree.specs.Tree.{Found}
use Rattle.capi.specs.Calls.{label_by}
use Rattle.capi.specs.declared.trees.TreeAnswer.{TreeAnswer}

-- the label and how many labels were visited
abbrev pub found_in : TreeAnswer → Found
found_in r = record { label = label_by r.label; visited = r.visited }
