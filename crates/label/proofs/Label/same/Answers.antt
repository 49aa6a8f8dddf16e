-- `label::Label::same` meets its contract.
use Rattle.std.proofs.Common.{ℕ, get_or, w64, Fits, rules}
use Rattle.label.specs.Label.{same_label}
use Rattle.label.specs.Code.{label_in}
use Rattle.label.proofs.Words.{same_words}
use Rattle.label.proofs.Label.same.Goals as goal

pub returns : goal.returns
unfolding same_label label_in
returns c =
    let a = c.args.self.sum in
    let b = c.args.other.sum in
    let fa : (k : ℕ) → Fits w64 (get_or c.args.self.sum k 0) = λ k. search rules in
    let fb : (k : ℕ) → Fits w64 (get_or c.args.other.sum k 0) = λ k. search rules in
    rw c.eq.ensures (rw (same_words a b (search rules) (search rules) (λ k. (fa k).fits) (λ k. (fb k).fits)))
