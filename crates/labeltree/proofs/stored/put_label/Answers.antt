-- `labeltree::stored::put_label` meets its contract.
use Rattle.label.specs.Code.{label_in}
use Rattle.tree.proofs.Stored.{put_is}
use Rattle.labeltree.proofs.stored.put_label.Goals as goal

pub returns : goal.returns
returns c =
    let w = c.write in
    put_is c.args.tree.now c.args.i c.requires (label_in c.args.label) w.new.out w.ensures
