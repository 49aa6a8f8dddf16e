-- `labeltree::stored::read_label` meets its contract.
use Rattle.tree.proofs.Stored.{read_is}
use Rattle.labeltree.proofs.stored.read_label.Goals as goal

pub returns : goal.returns
returns c = read_is c.args.tree.now c.args.i c.requires _ c.read.ensures
