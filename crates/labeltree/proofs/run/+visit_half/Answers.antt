-- `labeltree::run::visit_half` meets its contract.
use Rattle.std.proofs.Common.{◌+◌, ◌-◌, ◌*◌, ◌/◌, length, sym, ◌∙◌, arith}
use Rattle.label.specs.Code.{label_in}
use Rattle.tree.proofs.Places.{empty-label}
use Rattle.tree.proofs.Halves.{reach_visits, reach_left, reach_right, found-outside, found_inside, found-place, found_halves, found-few}
use Rattle.labeltree.specs.Code.{found_in}
use Rattle.labeltree.proofs.run.+visit_half.Goals as goal
use Rattle.labeltree.proofs.run.+visit_half.Goals.{then-level-eq0-via-then-level-eq0, then-level-eq0-via-else-level-eq0+then-is_inside}

pub returns-then-is_outside : goal.returns-then-is_outside
returns-then-is_outside t c =
    let a = c.args in
    found-outside a.tree.now a.from a.to a.level a.size a.at a.first c.requires.sized _ empty-label (sym c.is_outside.ensures ∙ c.if-is_outside.true)

pub returns-then-level-eq0 : goal.returns-then-level-eq0
returns-then-level-eq0 t c =
    let a = c.args in
    let r = c.read_label in
    let some = sym c.is_outside.ensures ∙ c.if-is_outside.false in
    elim c.then-level-eq0.branch [
      | then-level-eq0-via-then-level-eq0 w ↦ found-place a.tree.now a.from a.to a.level a.size a.at a.first (label_in r.result) c.requires.sized w.if-level-eq0.true r.ensures some
      | then-level-eq0-via-else-level-eq0+then-is_inside w ↦
          found_inside a.tree.now a.from a.to a.level a.size a.at a.first c.requires.sized (label_in r.result) r.ensures some (sym w.is_inside.ensures ∙ w.if-is_inside.true)
    ]

-- the left half
pub visit_half-left-requires : goal.visit_half-left-requires
visit_half-left-requires t c =
    let a = c.args in
    (omega (arith, c.decreases), reach_left (length a.tree.now) a.level a.size a.at a.first (omega arith) c.requires)

-- the right half
pub visit_half-right-requires : goal.visit_half-right-requires
visit_half-right-requires t c =
    let a = c.args in
    (omega (arith, c.decreases), reach_right (length a.tree.now) a.level a.size a.at a.first (omega arith) c.requires)

pub both-requires : goal.both-requires
both-requires t c =
    let a = c.args in
    let l = c.visit_half-left in
    let r = c.visit_half-right in
    reach_visits (length a.tree.now) a.level a.size a.at a.first c.requires (omega arith) l.result.visited r.result.visited
    (found-few a.tree.now a.from a.to (a.level - 1) (2 * a.at + 1) a.first (found_in l.result) l.ensures)
    (found-few a.tree.now a.from a.to (a.level - 1) (2 * a.at + 2) (a.first + a.size / 2) (found_in r.result) r.ensures)

pub returns : goal.returns
returns t c =
    let a = c.args in
    let l = c.visit_half-left in
    let r = c.visit_half-right in
    found_halves a.tree.now a.from a.to a.level a.size a.at a.first (found_in l.result) (found_in r.result) (found_in c.both.result) c.requires.sized (omega arith)
    (sym c.is_outside.ensures ∙ c.if-is_outside.false) (sym c.is_inside.ensures ∙ c.if-is_inside.false) l.ensures r.ensures c.both.ensures
