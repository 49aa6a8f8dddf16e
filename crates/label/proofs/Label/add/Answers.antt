-- `label::Label::add` meets its contract.
use Rattle.std.proofs.Common.{refl, rules}
use Rattle.label.specs.Label.{add}
use Rattle.label.specs.Code.{label_in}
use Rattle.label.proofs.Sums.{label_path}
use Rattle.label.proofs.Words.{sum_is}
use Rattle.label.proofs.Label.add.Goals as goal

pub returns : goal.returns
unfolding label_in add
returns c =
    label_path
    (sum_is _ _ _ _ _ _ _ _ _ _ _ _ _ _ _ _ c.add_words-a.ensures c.add_words-b.ensures c.add_words-c.ensures c.add_words-d.ensures (search rules) (search rules) (search rules) (search rules))
    refl
