-- `labeltree::stored::renew` meets its contract.
use Rattle.label.specs.Code.{label_in}
use Rattle.tree.proofs.Climbing.{renew_is}
use Rattle.labeltree.proofs.stored.renew.Goals as goal

pub returns : goal.returns
returns c =
    renew_is c.args.tree.now c.put_label.new.tree c.args.i (label_in c.read_label-left.result) (label_in c.read_label-right.result) (label_in c.add.result)
    c.read_label-left.ensures c.read_label-right.ensures c.add.ensures c.put_label.ensures
