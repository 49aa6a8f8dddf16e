-- `label::Label::of_id` meets its contract.
use Rattle.std.proofs.Common.{ℕ, get_or, refl, ap, ◌∙◌, arith, w64, Fits, rules}
use Rattle.label.specs.Label.{label_of, total}
use Rattle.label.specs.Code.{label_in}
use Rattle.label.proofs.Sums.{label_path}
use Rattle.label.proofs.Words.{id_is}
use Rattle.label.proofs.Ids.{empty_is, whole-none, whole-one}
use Rattle.label.proofs.Label.of_id.Goals as goal

pub returns-then-id-lt32 : goal.returns-then-id-lt32
returns-then-id-lt32 c = empty_is ∙ ap label_of (whole-none c.args.id.now (omega arith))

pub returns-else-id-lt32 : goal.returns-else-id-lt32
unfolding label_in label_of total
returns-else-id-lt32 c =
    let fits : (k : ℕ) → Fits w64 (get_or c.words_at_start.result k 0) = λ k. search rules in
    label_path (id_is _ _ _ _ _ (fits 0).fits (fits 1).fits (fits 2).fits (fits 3).fits c.words_at_start.ensures) refl
    ∙ ap label_of (whole-one c.args.id.now (omega arith))
