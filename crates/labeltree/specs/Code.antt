-- What the values of the code's types mean.
use Rattle.label.specs.Code.{label_in}
use Rattle.tree.specs.Tree as T
use Rattle.labeltree.specs.declared.run.Found.{Found}

abbrev pub found_in : Found → T.Found
found_in f = record { label = label_in f.label; visited = f.visited }
