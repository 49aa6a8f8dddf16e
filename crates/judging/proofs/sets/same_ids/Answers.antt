-- `judging::sets::same_ids` meets its contract.
use Prim.Native.Nat.{ℕ}
use mathlib.Core.Path.{◌≡◌, sym, ap, ◌∙◌}
use Rattle.message.specs.Code.{ids_in}
use Rattle.judging.proofs.Listing.{same_front, same_lists, listed_else, listed-both}
use Rattle.judging.proofs.sets.same_ids.Goals as goal

pub returns-then-eq : goal.returns-then-eq
returns-then-eq c =
    let a = c.args in
    let is : a.count ≡ a.more = c.if-count-more.true in
    let front = same_front a.count a.list.now a.other.now (sym c.eq.ensures ∙ c.if-eq.true) in
    sym (same_lists (ids_in a.count a.list.now) (ids_in a.more a.other.now) (front ∙ ap (λ (n : ℕ). ids_in n a.other.now) is))

pub returns-then-all_listed : goal.returns-then-all_listed
returns-then-all_listed c =
    let a = c.args in
    listed-both (ids_in a.count a.list.now) (ids_in a.more a.other.now) c.all_listed-then-all_listed.result
    (sym c.if-all_listed.true ∙ c.all_listed.ensures) c.all_listed-then-all_listed.ensures

pub returns-else-all_listed : goal.returns-else-all_listed
returns-else-all_listed c =
    let a = c.args in
    c.if-all_listed.false ∙ listed_else (ids_in a.count a.list.now) (ids_in a.more a.other.now) (sym c.if-all_listed.false ∙ c.all_listed.ensures)
